-- Map and additions after restoring depend on checks and map alone, whatever the packets and their size.
use Rattle.std.specs.Prelude.{◌≡◌, refl, List, ◌∷◌, ℕ, zero, suc, get_or, set}
use Rattle.std.proofs.Common.{sym, ap, ◌∙◌, subst, arith}
use Rattle.std.proofs.Math.Option.{none, some}
use Rattle.lists.specs.Tests.{by_opt}
use Rattle.table.specs.AnySize.{places-at, checks-at}
use Rattle.table.specs.Packets.{packets}
use Rattle.table.specs.Table.{places, size, at_size, checks}
use Rattle.erasure.specs.Orders.{Ready, Turns, Turns.stay, Turns.more, taken}
use Rattle.erasure.specs.Restoring.{State, lost_places, ready, turn, restoring, start, outcome}

pub record Alike (m n : State) : Type 0 where
  pub map-alike : m.map ≡ n.map
  pub adds-alike : m.adds ≡ n.adds

-- a turn keeps two states alike
pub turn-alike : (s r : ℕ) (c : List ℕ) (m n : State) → Alike m n → Alike (turn s c m) (turn r c n)
turn-alike s r c m n a = record {
  map-alike = ap (λ l. set l (get_or (lost_places l c) 0 0) 2) a.map-alike;
  adds-alike = omega (arith, a.adds-alike);
}

-- so do all turns ..
pub restoring-alike : (k s r : ℕ) (cs : List (List ℕ)) (m n : State) → Alike m n → Alike (restoring k s cs m) (restoring k r cs n)
restoring-alike zero s r cs m n a = a
restoring-alike (suc k) s r cs m n a = by_opt (ready m.map cs)
    (λ c e. let f : ready n.map cs ≡ some c = ap (λ l. ready l cs) (sym a.map-alike) ∙ e in
    rw (e, restoring, f) (restoring-alike k s r cs (turn s c m) (turn r c n) (turn-alike s r c m n a)))
    (λ e. let f : ready n.map cs ≡ none = ap (λ l. ready l cs) (sym a.map-alike) ∙ e in rw (e, restoring, f) a)

-- turns from m by checks of ds that take cs, to a state alike to e
pub record TakesAlike (s : ℕ) (ds : List (List ℕ)) (m : State) (cs : List (List ℕ)) (e : State) : Type 0 where
  pub to : State
  pub turns : Turns s ds m to
  pub same-checks : taken turns ≡ cs
  pub alike : Alike e to

-- .. in any order: from the other state the same checks can be taken
pub turns-alike : {s : ℕ} {ds : List (List ℕ)} {m e : State} (t : Turns s ds m e) (r : ℕ) (n : State) → Alike m n → TakesAlike r ds n (taken t) e
turns-alike stay r n a = record { to = n; turns = stay; same-checks = refl; alike = a }
turns-alike {s} {m} (more c i one t) r n a =
    let u = turns-alike t r (turn r c n) (turn-alike s r c m n a) in
    record { to = u.to; turns = more c i (subst (λ l. Ready l c) a.map-alike one) u.turns; same-checks = ap (λ l. c ∷ l) u.same-checks; alike = u.alike }

-- blocks b and c, tables t and u alike in places and checks
pub outcome-alike : (t u b c map : List ℕ) → places t ≡ places u → checks t ≡ checks u → Alike (outcome t b map) (outcome u c map)
outcome-alike t u b c map n cs =
    subst (λ k. Alike (outcome t b map) (restoring k (size u) (checks u) end)) n
    (subst (λ l. Alike (outcome t b map) (restoring (places t) (size u) l end)) cs
    (restoring-alike (places t) (size t) (size u) (checks t) _ end (record { map-alike = refl; adds-alike = refl })))
  where
    end : State
    end = start (size u) (packets (size u) (places u) c) map

-- one matrix at two sizes
pub size-alike : (s : ℕ) (t b c map : List ℕ) → Alike (outcome (at_size s t) c map) (outcome t b map)
size-alike s t b c map = outcome-alike (at_size s t) t c b map (places-at s t) (checks-at s t)
