-- What a place comes to, case by case: by the marks and packets, and for one word behind both.
use Rattle.std.specs.Prelude.{◌≡◌, refl, List, ◌≢◌, ℕ, ◌<◌, ◌≤◌, eqb, length, get_or, replicate}
use Rattle.std.proofs.Common.{sym, ap, ◌∙◌, arith, lt-ltb, le-ltb, eq-eqb, ne_eqb}
use Rattle.std.proofs.lemmas.List.{length-replicate}
use Rattle.entering.specs.Entering.{Entry, known, arrived, missing, entry, mark_of, packet_of, carried_mark}
use Rattle.lists.specs.Tests.{eqb-true, eqb-false, by_bool}

-- ---- the carried mark
pub carried-old : (n : ℕ) (map : List ℕ) (p : ℕ) → p < n → carried_mark n map p ≡ get_or map p 0
carried-old n map p h = rw (lt-ltb p n h, carried_mark)

pub carried-new : (n : ℕ) (map : List ℕ) (p : ℕ) → n ≤ p → carried_mark n map p ≡ 1
carried-new n map p h = rw (le-ltb p n h, carried_mark)

module _ (a b : ℕ) (x y : List ℕ) where
  -- ---- the cases, as the marks tell them
  pub entry_known : a ≢ 1 → entry a b x y ≡ known a x
  entry_known n = rw (ne_eqb a 1 n, entry)

  pub entry-arrived : a ≡ 1 → b ≡ 0 → entry a b x y ≡ arrived y
  entry-arrived e f = rw (eq-eqb a 1 e, entry, eq-eqb b 0 f)

  pub entry-missing : a ≡ 1 → b ≢ 0 → entry a b x y ≡ missing
  entry-missing e f = rw (eq-eqb a 1 e, entry, ne_eqb b 0 f)

  -- any fact of each of them
  pub by_cases : (P : Entry → Type 0) → (a ≢ 1 → P (known a x)) → (a ≡ 1 → b ≡ 0 → P (arrived y)) → (a ≡ 1 → b ≢ 0 → P missing) → P (entry a b x y)
  by_cases P stays enters lacks = by_bool (eqb a 1)
      (λ e. by_bool (eqb b 0)
      (λ f. rw (e, entry, f) (enters (eqb-true a 1 e) (eqb-true b 0 f)))
      (λ f. rw (e, entry, f) (lacks (eqb-true a 1 e) (eqb-false b 0 f))))
      (λ e. rw (e, entry) (stays (eqb-false a 1 e)))

  -- every packet has s bytes
  pub packet-sized : (s : ℕ) → (a ≢ 1 → length x ≡ s) → length y ≡ s → length (packet_of s (entry a b x y)) ≡ s
  packet-sized s l m = by_cases (λ e. length (packet_of s e) ≡ s) l (λ e f. m) (λ e f. length-replicate s 0)

  -- a lost place holds zero bytes
  pub lost-zero : (s : ℕ) → mark_of (entry a b x y) ≡ 1 → packet_of s (entry a b x y) ≡ replicate s 0
  lost-zero s = by_cases (λ e. mark_of e ≡ 1 → packet_of s e ≡ replicate s 0) (λ n z. absurd (n z)) (λ e f z. absurd (omega arith)) (λ e f z. refl)

  -- was lost, and hasn't arrived
  pub lost-is : mark_of (entry a b x y) ≡ 1 → (a ≡ 1) × (b ≢ 0)
  lost-is = by_cases (λ e. mark_of e ≡ 1 → (a ≡ 1) × (b ≢ 0)) (λ n z. absurd (n z)) (λ e f z. absurd (omega arith)) (λ e f z. (e, f))

  -- one word w behind both, right where they are known and where they arrived
  pub entered-word : (w : List ℕ) → (a ≢ 1 → x ≡ w) → (b ≡ 0 → y ≡ w) → (s : ℕ) → mark_of (entry a b x y) ≢ 1 → packet_of s (entry a b x y) ≡ w
  entered-word w first second s = by_cases (λ e. mark_of e ≢ 1 → packet_of s e ≡ w) (λ n z. first n) (λ e f z. second f) (λ e f z. absurd (z refl))

-- "Old bytes at lost places never count", nor do arrivals at known places
pub entry-alike : (a b c : ℕ) (x y u v : List ℕ) → (a ≢ 1 → x ≡ u) → (a ≡ 1 → b ≡ c) → (a ≡ 1 → b ≡ 0 → y ≡ v) → entry a b x y ≡ entry a c u v
entry-alike a b c x y u v first marks second = by_cases a b x y (λ e. e ≡ entry a c u v)
    (λ n. ap (known a) (first n) ∙ sym (entry_known a c u v n))
    (λ e f. ap arrived (second e f) ∙ sym (entry-arrived a c u v e (sym (marks e) ∙ f)))
    (λ e f. sym (entry-missing a c u v e (λ z. f (marks e ∙ z))))
