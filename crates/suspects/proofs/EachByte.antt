-- A suspect is one at each byte position: a place that is none at one byte position is none.
use Rattle.std.specs.Prelude.{◌≡◌, false, List, ℕ, ◌*◌, ◌<◌, length}
use Rattle.std.proofs.Common.{sym, ap, ◌∙◌, true≢false}
use Rattle.erasure.proofs.Alike.{size-alike}
use Rattle.erasure.proofs.EachByte.{agrees-each}
use Rattle.erasure.specs.Restoring.{is_lost}
use Rattle.lists.specs.Tests.{by_bool}
use Rattle.table.specs.AnySize.{places-at}
use Rattle.table.specs.Packets.{bytes_at}
use Rattle.table.specs.Table.{places, size, at_size, refusal}
use Rattle.suspects.specs.Blame.{lost_too, suspect, Suspect}
use Rattle.suspects.proofs.BlameLaws.{suspect-is, is-suspect}

module _ (t b map : List ℕ) (ok : refusal t ≡ 0) (fits : length b ≡ places t * size t) (j : ℕ) (h : j < size t) (p : ℕ) where
  pub suspect-narrow : Suspect t b map p → Suspect (at_size 1 t) (bytes_at (size t) (places t) j b) map p
  suspect-narrow s =
      let more = lost_too map p in
      let same = (size-alike 1 t b (bytes_at (size t) (places t) j b) more).map-alike in
      record {
        inside = rw (places-at 1 t) s.inside;
        received = s.received;
        restored = ap (λ (l : List ℕ). is_lost l p) same ∙ s.restored;
        agrees = agrees-each t b more ok fits j h s.agrees;
      }

  pub not_narrow : p < places t → suspect (at_size 1 t) (bytes_at (size t) (places t) j b) map p ≡ false → suspect t b map p ≡ false
  not_narrow inside n = by_bool (suspect t b map p)
      (λ e. absurd (true≢false (sym (is-suspect (at_size 1 t) (bytes_at (size t) (places t) j b) map p (suspect-narrow (suspect-is t b map p inside e))) ∙ n)))
      (λ e. e)
