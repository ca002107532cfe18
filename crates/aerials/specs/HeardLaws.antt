-- What a place comes to, case by case: by the marks and packets, exchanged, and for one word behind both.
use Rattle.std.specs.Prelude.{◌≡◌, refl, true, false, cond, List, ◌≢◌, ℕ, ◌≤◌, eqb, ltb, length, replicate}
use Rattle.std.proofs.Common.{sym, ap, ◌∙◌, true≢false, arith, ne_eqb, eq-eqb}
use Rattle.std.proofs.lemmas.List.{length-replicate}
use Rattle.lists.specs.ListLaws.{same_self, same-sound}
use Rattle.lists.specs.Lists.{same_list}
use Rattle.lists.specs.Tests.{eqb-true, eqb-false, by_bool}
use Rattle.aerials.specs.Aerials.{Heard, agreed, single, silent, clash, heard, packet_of, mark_of, kind_of}

-- ---- by its kind
-- a mark is 0 or 1
pub mark-most : (h : Heard) → mark_of h ≤ 1
mark-most (agreed x) = omega arith
mark-most (single x) = omega arith
mark-most silent = omega arith
mark-most clash = omega arith

-- kinds over 1 are lost
pub mark-kind : (h : Heard) → mark_of h ≡ cond (ltb 1 (kind_of h)) 1 0
mark-kind (agreed x) = refl
mark-kind (single x) = refl
mark-kind silent = refl
mark-kind clash = refl

-- a place that is lost holds zero bytes
pub lost-zero : (s : ℕ) (h : Heard) → mark_of h ≡ 1 → packet_of s h ≡ replicate s 0
lost-zero s (agreed x) e = absurd (omega arith)
lost-zero s (single x) e = absurd (omega arith)
lost-zero s silent e = refl
lost-zero s clash e = refl

-- two packets that differ are not both one word
pub differ : (x y : List ℕ) → same_list x y ≡ false → x ≢ y
differ x y e h = true≢false (sym (same_self y) ∙ ap (λ z. same_list z y) (sym h) ∙ e)

unequal : (x y : List ℕ) → x ≢ y → same_list x y ≡ false
unequal x y n = by_bool (same_list x y) (λ z. absurd (n (same-sound x y z))) (λ z. z)

module _ (a b : ℕ) (x y : List ℕ) where
  -- ---- the cases, as the marks and packets tell them
  pub heard-agreed : a ≡ 0 → b ≡ 0 → same_list x y ≡ true → heard a b x y ≡ agreed x
  heard-agreed e f g = rw (eq-eqb a 0 e, heard, eq-eqb b 0 f, g)

  pub heard-clash : a ≡ 0 → b ≡ 0 → same_list x y ≡ false → heard a b x y ≡ clash
  heard-clash e f g = rw (eq-eqb a 0 e, heard, eq-eqb b 0 f, g)

  pub heard-first : a ≡ 0 → b ≢ 0 → heard a b x y ≡ single x
  heard-first e f = rw (eq-eqb a 0 e, heard, ne_eqb b 0 f)

  pub heard-second : a ≢ 0 → b ≡ 0 → heard a b x y ≡ single y
  heard-second e f = rw (ne_eqb a 0 e, heard, eq-eqb b 0 f)

  pub heard-silent : a ≢ 0 → b ≢ 0 → heard a b x y ≡ silent
  heard-silent e f = rw (ne_eqb a 0 e, heard, ne_eqb b 0 f)

  -- any fact of each of them
  pub by_cases : (P : Heard → Type 0)
      → (a ≡ 0 → b ≡ 0 → x ≡ y → P (agreed x))
      → (a ≡ 0 → b ≡ 0 → x ≢ y → P clash)
      → (a ≡ 0 → b ≢ 0 → P (single x))
      → (a ≢ 0 → b ≡ 0 → P (single y))
      → (a ≢ 0 → b ≢ 0 → P silent)
      → P (heard a b x y)
  by_cases P agree differs first second none = by_bool (eqb a 0)
      (λ e. by_bool (eqb b 0)
      (λ f. by_bool (same_list x y)
      (λ g. rw (e, heard, f, g) (agree (eqb-true a 0 e) (eqb-true b 0 f) (same-sound x y g)))
      (λ g. rw (e, heard, f, g) (differs (eqb-true a 0 e) (eqb-true b 0 f) (differ x y g))))
      (λ f. rw (e, heard, f) (first (eqb-true a 0 e) (eqb-false b 0 f))))
      (λ e. by_bool (eqb b 0)
      (λ f. rw (e, heard, f) (second (eqb-false a 0 e) (eqb-true b 0 f)))
      (λ f. rw (e, heard, f) (none (eqb-false a 0 e) (eqb-false b 0 f))))

  -- a place that nobody heard is silent, and no other
  pub silent-is : kind_of (heard a b x y) ≡ 2 → (a ≢ 0) × (b ≢ 0)
  silent-is = by_cases (λ h. kind_of h ≡ 2 → (a ≢ 0) × (b ≢ 0))
      (λ e f g z. absurd (omega arith)) (λ e f g z. absurd (omega arith)) (λ e f z. absurd (omega arith)) (λ e f z. absurd (omega arith)) (λ e f z. (e, f))

  -- one in clash was heard by both, with packets that differ
  pub clash-is : kind_of (heard a b x y) ≡ 3 → (a ≡ 0) × ((b ≡ 0) × (x ≢ y))
  clash-is = by_cases (λ h. kind_of h ≡ 3 → (a ≡ 0) × ((b ≡ 0) × (x ≢ y)))
      (λ e f g z. absurd (omega arith)) (λ e f g z. (e, (f, g))) (λ e f z. absurd (omega arith)) (λ e f z. absurd (omega arith)) (λ e f z. absurd (omega arith))

  -- every packet has s bytes
  pub packet-sized : (s : ℕ) → length x ≡ s → length y ≡ s → length (packet_of s (heard a b x y)) ≡ s
  packet-sized s l m = by_cases (λ h. length (packet_of s h) ≡ s)
      (λ e f g. l) (λ e f g. length-replicate s 0) (λ e f. l) (λ e f. m) (λ e f. length-replicate s 0)

  -- ---- one word w behind both, right where they heard
  module _ (w : List ℕ) (first : a ≡ 0 → x ≡ w) (second : b ≡ 0 → y ≡ w) where
    -- "never clash"
    pub no-clash : kind_of (heard a b x y) ≢ 3
    no-clash = by_cases (λ h. kind_of h ≢ 3)
        (λ e f g z. omega arith) (λ e f g z. g (first e ∙ sym (second f))) (λ e f z. omega arith) (λ e f z. omega arith) (λ e f z. omega arith)

    -- what isn't lost is the word's
    pub merged-word : (s : ℕ) → mark_of (heard a b x y) ≡ 0 → packet_of s (heard a b x y) ≡ w
    merged-word s = by_cases (λ h. mark_of h ≡ 0 → packet_of s h ≡ w)
        (λ e f g z. first e) (λ e f g z. absurd (omega arith)) (λ e f z. first e) (λ e f z. second f) (λ e f z. absurd (omega arith))

    -- a place that either heard isn't lost
    pub lost-both : mark_of (heard a b x y) ≡ 1 → (a ≢ 0) × (b ≢ 0)
    lost-both = by_cases (λ h. mark_of h ≡ 1 → (a ≢ 0) × (b ≢ 0))
        (λ e f g z. absurd (omega arith)) (λ e f g z. absurd (g (first e ∙ sym (second f)))) (λ e f z. absurd (omega arith)) (λ e f z. absurd (omega arith)) (λ e f z. (e, f))

-- the listeners exchanged
pub exchanged : (a b : ℕ) (x y : List ℕ) → heard a b x y ≡ heard b a y x
exchanged a b x y = by_cases a b x y (λ h. h ≡ heard b a y x)
    (λ e f g. ap agreed g ∙ sym (heard-agreed b a y x f e (ap (λ z. same_list z x) (sym g) ∙ same_self x)))
    (λ e f g. sym (heard-clash b a y x f e (unequal y x (λ z. g (sym z)))))
    (λ e f. sym (heard-second b a y x f e))
    (λ e f. sym (heard-first b a y x f e))
    (λ e f. sym (heard-silent b a y x f e))

-- "Old bytes at lost places never count": only packets that were heard do
pub heard-alike : (a b : ℕ) (x y u v : List ℕ) → (a ≡ 0 → x ≡ u) → (b ≡ 0 → y ≡ v) → heard a b x y ≡ heard a b u v
heard-alike a b x y u v first second = by_cases a b x y (λ h. h ≡ heard a b u v)
    (λ e f g. ap agreed (first e) ∙ sym (heard-agreed a b u v e f (ap (λ z. same_list z v) (sym (first e) ∙ g ∙ second f) ∙ same_self v)))
    (λ e f g. sym (heard-clash a b u v e f (unequal u v (λ z. g (first e ∙ z ∙ sym (second f))))))
    (λ e f. ap single (first e) ∙ sym (heard-first a b u v e f))
    (λ e f. ap single (second f) ∙ sym (heard-second a b u v e f))
    (λ e f. sym (heard-silent a b u v e f))
