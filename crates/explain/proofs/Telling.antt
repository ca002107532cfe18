-- The list for a lost place, from what elimination left and from the place's own row, reduced.
use mathlib.Core.Path.{◌≡◌, sym, ap, ap₂, ◌∙◌, subst}
use mathlib.Core.Bool.{true, false, true≢false, cond}
use mathlib.Core.List.{List, map}
use Prim.Native.Nat.{ℕ, suc, ◌-◌, ◌^◌, ◌<◌, ◌≤◌}
use native.Mathlib.Omega.{arith}
use lib.Bits.{bit_xor, xor_zero_l}
use lib.ListN.{length, take}
use Rattle.bits.specs.Front.{Front, front-is, front-taken}
use Rattle.bits.specs.Row.{row, RowPut}
use Rattle.bits.specs.RowLaws.{put-put, put_is}
use Rattle.decided.specs.Decided.{decided}
use Rattle.erasure.specs.Restoring.{is_lost}
use Rattle.gf2.specs.EchelonLaws.{bit-nonzero}
use Rattle.gf2.specs.Gf2.{is_zero, row_of, Short, down, path}
use Rattle.gf2.specs.OneRowMore.{Stopped, short-zero}
use Rattle.lists.specs.Lists.{All}
use Rattle.reasons.specs.Least.{found-least}
use Rattle.reasons.specs.LeastBits.{even_bits}
use Rattle.reasons.specs.Noting.{places_of}
use Rattle.reasons.proofs.LeastList.{listed-least, listed-up}
use Rattle.reasons.proofs.ListedLaws.{listed-restored}
use Rattle.reasons.specs.Mirror.{mirror, mirror_row}
use Rattle.reasons.specs.Reasons.{named}
use Rattle.reasons.specs.Trace.{trace}
use Rattle.reasons.specs.Noting.{bits_below, Numbered}
use Rattle.reasons.proofs.Traced.{kept_in, kept_out, place-decided, traced-list}
use Rattle.reasons.specs.Used.{chosen}
use Rattle.rows.specs.Leads.{leads, Owners, Lowered}
use Rattle.rows.specs.LeadsLaws.{leads-none, leads-kept}
use Rattle.table.specs.Accepted.{Accepted, few-checks, check-count}
use Rattle.table.specs.Table.{checks}
use Rattle.table.specs.TableLaws.{accepted}
use Rattle.tracing.specs.Tracing.{number_in, Led, Taken}
use Rattle.tracing.specs.TracingLaws.{numbered, path-led}
use Rattle.explain.specs.declared.Told.TheVariants.{Restored, Lost}
use Rattle.explain.specs.Telling.{Tells}

-- a place flipped in a row that was zero
pub one_place : (q v : ℕ) → v ≡ q → {w e f : List ℕ} {r : ℕ} → RowPut w r 0 e → RowPut e r (bit_xor (row e r) (2 ^ v)) f → RowPut w r (2 ^ q) f
one_place q v i a b = put_is (put-put a b) (ap₂ (λ x y. bit_xor x (2 ^ y)) a.here i ∙ xor_zero_l (2 ^ q))

module _ (t : List ℕ) (m n s : ℕ) (ok : Accepted t m n s) (lost : List ℕ) {w owner feed ids : List ℕ} {k : ℕ} (z : Taken t n lost w owner feed ids k) where
  low : All (λ c. All (λ q. q < n) c) (checks t)
  low = subst (λ v. All (λ c. All (λ q. q < v) c) (checks t)) (sym ok.places-are) (accepted t ok.accepted).low

  pub few-used : k ≤ m
  few-used = let h = z.few in let c = check-count t m n s ok in omega arith

  -- no place names the row behind those of the checks
  pub place-owners : 8208 ≤ length w → Owners w owner 512
  place-owners room = record {
    room = λ p. let h = z.owned p in let f = few-used in let c = few-checks t m n s ok in omega arith;
    apart = λ p e. let h = z.owned p in let f = few-used in let c = few-checks t m n s ok in omega arith;
    lead = z.lead;
  }

  module _ (p : ℕ) (pl : p < n) (is_lost_lem : is_lost lost p ≡ true) (long : n ≤ length owner) where
    -- the rows that lead places
    abbrev F : ℕ → ℕ
    F = leads w owner

    abbrev place : ℕ
    place = 2 ^ mirror n p

    abbrev U : List ℕ
    U = chosen (mirror_row n lost) (checks t)

    by_number : Numbered F (row w) (number_in owner) (length U)
    by_number = subst (Numbered F (row w) (number_in owner)) z.count (numbered w owner z.owned)

    is-decided : is_zero (down F n place) ≡ decided lost (checks t) p
    is-decided = place-decided n low lost z.kept by_number p pl

    -- the noted places lead rows
    pub noted-led : {old noted : List ℕ} {c : ℕ} → Front (path F n place) old noted c → Led owner (take c noted)
    noted-led f = subst (Led owner) (sym (front-taken f)) (path-led w owner z.owned n place long (let g = few-used in let c = few-checks t m n s ok in omega arith))

    module _ {e : List ℕ} {l : ℕ} (o : Owners w owner 512) (d : Lowered w owner 512 n place e l) where
      vanished : l ≡ 0 → is_zero (down F n place) ≡ true
      vanished h = ap is_zero (short-zero (down F n place) (subst (λ u. Short u (down F n place)) h d.bits.most))

      -- the row vanished: the place is restored
      -- the list that is written, from the used checks and the noted places
      abbrev written : List ℕ → List ℕ → List ℕ
      written V N = named (bits_below (length V) (trace (row feed) (length V) (row_of (map (number_in owner) N)))) V

      pub tells-restored : l ≡ 0 → {oldn noted : List ℕ} {c : ℕ} → Front (path F n place) oldn noted c → {old x : List ℕ} {len : ℕ}
          → Front (written (take k ids) (take c noted)) old x len → Tells n (checks t) lost p (Restored len) old x
      tells-restored h {oldn} {noted} {c} f {old} {x} {len} g =
          let yes = vanished h in
          record {
            list = written (take k ids) (take c noted);
            listed = listed-restored n (checks t) lost p is_lost_lem (sym is-decided ∙ yes) _ (ap₂ written z.used-are (front-taken f) ∙ traced-list n low lost z.kept by_number p pl yes);
            front = g;
            kind = sym (ap (λ b. cond b 2 3) (sym is-decided ∙ yes));
          }

      -- something is left: the place stays lost
      pub tells-lost : 0 < l → {old x : List ℕ} {len : ℕ} → Front (places_of n (even_bits n (leads e owner) (l - 1))) old x len → Tells n (checks t) lost p (Lost len) old x
      tells-lost h {old} {x} {len} g = record {
        list = places_of n (even_bits n F (l - 1));
        listed = record {
          received = λ u. absurd (true≢false (sym is_lost_lem ∙ u));
          restored = λ u v. absurd (true≢false (sym v ∙ sym is-decided ∙ not-zero));
          lost-up = λ u v. listed-up n (even_bits n F (l - 1));
          lost-least = λ u v. listed-least n (checks t) lost p (even_bits n F (l - 1))
              (found-least n (checks t) low lost p pl is_lost_lem z.kept.lead (kept_in n (mirror_row n lost) (checks t) z.kept) (kept_out n (mirror_row n lost) (checks t) z.kept) stopped);
        };
        front = front-is g (ap (λ G. places_of n (even_bits n G (l - 1))) (leads-kept o d.put));
        kind = sym (ap (λ b. cond b 2 3) (sym is-decided ∙ not-zero));
      }
        where
          not-zero : is_zero (down F n place) ≡ false
          not-zero = bit-nonzero (l - 1) (down F n place) (d.bits.last h)

          stopped : Stopped F n (down F n place)
          stopped = record {
            top = l - 1;
            inside = let k = d.most in omega arith;
            on = d.bits.last h;
            last = let e : suc (l - 1) ≡ l = omega arith in rw e d.bits.most;
            free = ap is_zero (leads-none w owner (l - 1) (d.free h));
          }
