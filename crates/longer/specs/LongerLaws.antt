-- A longer table: the test as facts, and back; every table lengthens itself; lengthening twice is lengthening once; old checks are new ones.
use Rattle.std.specs.Prelude.{◌≡◌, refl, true, ◌&&◌, List, [], ◌∷◌, ◌++◌, ℕ, eqb, leb}
use Rattle.std.proofs.Common.{sym, ap, ap₂, ◌∙◌, subst, append-nil, append_assoc, arith, leb-true, le-leb}
use Rattle.std.proofs.lemmas.Bool.{false≢true}
use Rattle.lists.specs.ListLaws.{same_self, same-sound}
use Rattle.lists.specs.Lists.{same_list, All, All.nil, All.cons}
use Rattle.lists.specs.Tests.{eqb-true, eqb-self, and_l, and_r}
use Rattle.longer.specs.Longer.{are_first, lengthens, Lengthens}
use Rattle.table.specs.Table.{places, size, checks}

-- ---- the test and the facts
first_then : (cs ds : List (List ℕ)) → are_first cs ds ≡ true → (later : List (List ℕ)) × (ds ≡ cs ++ later)
first_then [] ds h = (ds, refl)
first_then (c ∷ cs) [] h = absurd (false≢true h)
first_then (c ∷ cs) (d ∷ ds) h =
    let r = first_then cs ds (and_r (same_list c d) (are_first cs ds) h) in
    (r.0, ap₂ ◌∷◌ (sym (same-sound c d (and_l (same_list c d) (are_first cs ds) h))) r.1)

then-first : (cs later : List (List ℕ)) → are_first cs (cs ++ later) ≡ true
then-first [] later = refl
then-first (c ∷ cs) later = ap₂ ◌&&◌ (same_self c) (then-first cs later)

module _ (old new : List ℕ) where
  pub lengthens-facts : lengthens old new ≡ true → Lengthens old new
  lengthens-facts h =
      let rest = and_r (eqb (size old) (size new)) _ h in
      let r = first_then (checks old) (checks new) (and_r (leb (places old) (places new)) _ rest) in
      record {
        same_size = eqb-true (size old) (size new) (and_l (eqb (size old) (size new)) _ h);
        more-places = leb-true (places old) (places new) (and_l (leb (places old) (places new)) _ rest);
        later = r.0;
        old-first = r.1;
      }

  pub facts-lengthen : Lengthens old new → lengthens old new ≡ true
  facts-lengthen l =
      ap₂ ◌&&◌ (ap (λ x. eqb x (size new)) l.same_size ∙ eqb-self (size new))
      (ap₂ ◌&&◌ (le-leb (places old) (places new) l.more-places)
      (ap (are_first (checks old)) l.old-first ∙ then-first (checks old) l.later))

-- an unchanged table is a lengthening
pub lengthens-self : (t : List ℕ) → lengthens t t ≡ true
lengthens-self t = facts-lengthen t t (record { same_size = refl; more-places = omega arith; later = []; old-first = sym (append-nil (checks t)) })

-- lengthening twice is lengthening once
pub lengthens-twice : (old mid new : List ℕ) → lengthens old mid ≡ true → lengthens mid new ≡ true → lengthens old new ≡ true
lengthens-twice old mid new h k =
    let a = lengthens-facts old mid h in
    let b = lengthens-facts mid new k in
    facts-lengthen old new (record {
      same_size = a.same_size ∙ b.same_size;
      more-places = omega (arith, a.more-places, b.more-places);
      later = a.later ++ b.later;
      old-first = b.old-first ∙ ap (λ l. l ++ b.later) a.old-first ∙ append_assoc (checks old) a.later b.later;
    })

-- ---- what holds of all new checks holds of the old ones
all_first : {X : Type 0} {P : X → Type 0} (l m : List X) → All P (l ++ m) → All P l
all_first [] m a = nil
all_first (x ∷ l) m (cons p a) = cons p (all_first l m a)

pub old-checks : {P : List ℕ → Type 0} (old new : List ℕ) → Lengthens old new → All P (checks new) → All P (checks old)
old-checks {P} old new l a = all_first (checks old) l.later (subst (All P) l.old-first a)
