-- Laws of the rows that an owner list names: a change of another row is not seen.
use Rattle.std.specs.Prelude.{◌≡◌, refl, List, ℕ, zero, suc, ◌+◌, ◌-◌, ◌*◌, ◌<◌, ◌≤◌, eqb, length, get_or, set}
use Rattle.std.proofs.Common.{sym, ap, ap₂, ◌∙◌, subst, true≢false, arith, get_or-set_same, get_or-set_other, eq-eqb, ne_eqb}
use Rattle.std.proofs.Math.Path.{fun_ext}
use Rattle.gf2.specs.Gf2.{bit, Short, Bits, Lead, down, path, is_zero}
use Rattle.gf2.specs.Bit.{bit-zero}
use Rattle.lists.specs.Tests.{eqb-true, eqb-false, by_bool}
use Rattle.bits.specs.Row.{row, RowPut}
use Rattle.bits.specs.RowLaws.{row_other, put-put, put_is}
use Rattle.rows.specs.Leads.{leads, Owners, Reducible, Lowered, path_of}

-- ---- what owner names
pub leads-none : (w owner : List ℕ) (p : ℕ) → get_or owner p 0 ≡ 0 → leads w owner p ≡ 0
unfolding leads
leads-none w owner p h = rw (eq-eqb (get_or owner p 0) 0 h)

pub leads-at : (w owner : List ℕ) (p : ℕ) → 0 < get_or owner p 0 → leads w owner p ≡ row w (get_or owner p 0 - 1)
unfolding leads
leads-at w owner p h = rw (ne_eqb (get_or owner p 0) 0 (λ (e : get_or owner p 0 ≡ 0). omega arith))

pub named : {P : Type 0} (x : ℕ) → (x ≡ 0 → P) → (0 < x → P) → P
named zero f g = f refl
named (suc x) f g = g (omega arith)

pub owners-lead : {w owner : List ℕ} {k : ℕ} → Owners w owner k → Lead (leads w owner)
owners-lead {w} {owner} o = record {
  low = λ p q h. named (get_or owner p 0)
      (λ z. ap (bit q) (leads-none w owner p z) ∙ bit-zero q)
      (λ z. ap (bit q) (leads-at w owner p z) ∙ (o.lead p z).most.above q (omega arith));
  own = λ p h. named (get_or owner p 0)
      (λ z. absurd (true≢false (sym (ap is_zero (leads-none w owner p z)) ∙ h)))
      (λ z. let e : p + 1 - 1 ≡ p = omega arith in ap (bit p) (leads-at w owner p z) ∙ (rw e at ((o.lead p z).last (omega arith))));
}

-- a change of row k is not seen
module _ {w owner e : List ℕ} {k y : ℕ} (o : Owners w owner k) (d : RowPut w k y e) where
  pub row_named : (p : ℕ) → 0 < get_or owner p 0 → row e (get_or owner p 0 - 1) ≡ row w (get_or owner p 0 - 1)
  row_named p h = row_other d (get_or owner p 0 - 1) (λ (q : get_or owner p 0 - 1 ≡ k). o.apart p (omega arith))

  pub leads-kept : leads e owner ≡ leads w owner
  leads-kept = fun_ext (λ p. named (get_or owner p 0)
      (λ z. leads-none e owner p z ∙ sym (leads-none w owner p z))
      (λ z. leads-at e owner p z ∙ row_named p z ∙ sym (leads-at w owner p z)))

  pub owners-kept : Owners e owner k
  owners-kept = record { room = λ p. let r = o.room p in let l = d.len in omega arith; apart = o.apart; lead = λ p h. subst (λ (x : ℕ). Bits x (p + 1)) (sym (row_named p h)) (o.lead p h) }

-- a row put in and then reduced
pub lowered-as : {w owner e f : List ℕ} {k n x r : ℕ} → Owners w owner k → RowPut w k x e → Lowered e owner k n (row e k) f r → Lowered w owner k n x f r
lowered-as {w} {owner} {e} {f} {k} {n} {x} {r} o d l =
    let y : down (leads e owner) n (row e k) ≡ down (leads w owner) n x = ap₂ (λ (F : ℕ → ℕ) (v : ℕ). down F n v) (leads-kept o d) d.here in
    record { put = put_is (put-put d l.put) y; bits = subst (λ (v : ℕ). Bits v r) y l.bits; most = l.most; free = l.free }

-- a row put in, to be reduced
module _ {w owner e : List ℕ} {k x : ℕ} (o : Owners w owner k) (d : RowPut w k x e) (n : ℕ) where
  pub put-reducible : Short n x → k * 16 + 16 ≤ length w → n ≤ 1024 → n ≤ length owner → Reducible e owner k n
  put-reducible short room few long = record {
    inside = let l = d.len in omega arith;
    most = few;
    places = long;
    owners = owners-kept o d;
    short = subst (Short n) (sym d.here) short;
  }

  pub put-path : path_of e owner k n ≡ path (leads w owner) n x
  put-path = ap₂ (λ (F : ℕ → ℕ) (v : ℕ). path F n v) (leads-kept o d) d.here

-- ---- rows named from the first on
pub owners-below : {w owner : List ℕ} {k : ℕ} → ((p : ℕ) → get_or owner p 0 ≤ k) → ((p : ℕ) → 0 < get_or owner p 0 → Bits (row w (get_or owner p 0 - 1)) (p + 1))
    → k * 16 ≤ length w → Owners w owner k
owners-below few lead room = record { room = λ p. let h = few p in omega arith; apart = λ p e. let h = few p in omega arith; lead = lead }

-- ---- a reduced row that isn't zero is named by its highest place
module _ {w owner e : List ℕ} {k n x l : ℕ} (o : Owners w owner k) (d : Lowered w owner k n x e l) (hit : 0 < l) (lo : l ≤ length owner) where
  -- the new owner list
  abbrev own : List ℕ
  own = set owner (l - 1) (k + 1)

  pub own-here : get_or own (l - 1) 0 ≡ k + 1
  own-here = get_or-set_same owner (l - 1) (k + 1) 0 (omega arith)

  pub own-other : (p : ℕ) → (p ≡ l - 1 → ⊥) → get_or own p 0 ≡ get_or owner p 0
  own-other p h = get_or-set_other owner (l - 1) p (k + 1) 0 h

  pub own-most : (b : ℕ) → k < b → ((p : ℕ) → get_or owner p 0 ≤ b) → (p : ℕ) → get_or own p 0 ≤ b
  own-most b h few p = by_bool (eqb p (l - 1))
      (λ a. let i : p ≡ l - 1 = eqb-true p (l - 1) a in let c = own-here in rw i (omega arith))
      (λ a. let c = own-other p (eqb-false p (l - 1) a) in let f = few p in omega arith)

  -- the new row leads its place, the others lead what they led
  pub lead-here : leads e own (l - 1) ≡ down (leads w owner) n x
  lead-here =
      let c = own-here in
      let g : get_or own (l - 1) 0 - 1 ≡ k = omega arith in
      leads-at e own (l - 1) (omega arith) ∙ ap (row e) g ∙ d.put.here

  pub lead-other : (p : ℕ) → (p ≡ l - 1 → ⊥) → leads e own p ≡ leads w owner p
  lead-other p h = let b = own-other p h in named (get_or owner p 0)
      (λ z. leads-none e own p (b ∙ z) ∙ sym (leads-none w owner p z))
      (λ z. leads-at e own p (omega arith) ∙ ap (λ (v : ℕ). row e (v - 1)) b ∙ row_named o d.put p z ∙ sym (leads-at w owner p z))

  pub lead_bits : (p : ℕ) → 0 < get_or own p 0 → Bits (row e (get_or own p 0 - 1)) (p + 1)
  lead_bits p h = by_bool (eqb p (l - 1))
      (λ a. let b : p ≡ l - 1 = eqb-true p (l - 1) a in
      let g : get_or own p 0 - 1 ≡ k = omega (arith, own-here, ap (λ (j : ℕ). get_or own j 0) b) in
      let v : p + 1 ≡ l = omega arith in
      subst (λ (u : ℕ). Bits (row e (get_or own p 0 - 1)) u) (sym v) (subst (λ (u : ℕ). Bits u l) (sym (ap (row e) g ∙ d.put.here)) d.bits))
      (λ a. let b = own-other p (eqb-false p (l - 1) a) in
      let z : 0 < get_or owner p 0 = omega arith in
      subst (λ (u : ℕ). Bits u (p + 1)) (sym (ap (λ (v : ℕ). row e (v - 1)) b ∙ row_named o d.put p z)) (o.lead p z))
