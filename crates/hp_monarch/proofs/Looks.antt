-- What is read of an arrived byte is a byte, and what an add reads of it is noted.
use Rattle.std.proofs.Common.{◌≡◌, ◌≢◌, inl, inr, ℕ, ◌^◌, ◌<◌, List, refl, sym, subst, ◌∙◌}
use Rattle.std.specs.Prelude.{slice_set}
use Rattle.hp_model.specs.declared.accesses.Answer.{Answer}
use Rattle.hp_model.specs.declared.accesses.Answer.TheVariants.{Quiet, Value}
use Rattle.hp_model.specs.declared.labels.Label.{Label}
use Rattle.hp_model.specs.declared.labels.Label.TheVariants.{S3, N8b, N11}
use Rattle.hp_model.specs.Add.{AddNext, AddsAt, Ends, saw_flag, saw_pair, shut, saw_arrival}
use Rattle.hp_model.specs.Boot.{value_in}
use Rattle.hp_model.specs.Fitting.{FitsWant}
use Rattle.hp_model.specs.Handlers.{Seat, next_at, want_at}
use Rattle.hp_model.specs.Monarch.{Monarch, after_add, noted}
use Rattle.hp_model.specs.SharedBytes.{Layout}
use Rattle.hp_reloc.specs.Relocating.{IsOfAdd, label_of}
use Rattle.hp_reloc.specs.declared.rows.Row.{Row}
use Rattle.hp_reloc.specs.declared.rows.Row.TheVariants as row
use Rattle.hp_monarch.specs.Session.{ReadsByte}

nobody : Seat
nobody = record { apic = 0; slot = 0; base = 0 }

at_S3 : (y : Layout) (r : Monarch) (answer : Answer) → ((x : Seat) → FitsWant (want_at y x r S3) answer) → value_in answer < 256 ^ 1
at_S3 y r Quiet h = absurd (h nobody)
at_S3 y r (Value v) h = h nobody

at_N8b : (y : Layout) (r : Monarch) (answer : Answer) → ((x : Seat) → FitsWant (want_at y x r N8b) answer) → value_in answer < 256 ^ 1
at_N8b y r Quiet h = absurd (h nobody)
at_N8b y r (Value v) h = h nobody

at_N11 : (y : Layout) (r : Monarch) (answer : Answer) → ((x : Seat) → FitsWant (want_at y x r N11) answer) → value_in answer < 256 ^ 1
at_N11 y r Quiet h = absurd (h nobody)
at_N11 y r (Value v) h = h nobody

pub byte_at_S3 : (y : Layout) (r : Monarch) (answer : Answer) (l : Label) → l ≡ S3 → ((x : Seat) → FitsWant (want_at y x r l) answer) → value_in answer < 256 ^ 1
byte_at_S3 y r answer l e h = at_S3 y r answer (subst (λ (m : Label). (x : Seat) → FitsWant (want_at y x r m) answer) e h)

pub byte_of_add : (y : Layout) (r : Monarch) (answer : Answer) (l : Label) → ReadsByte l → ((x : Seat) → FitsWant (want_at y x r l) answer) → value_in answer < 256 ^ 1
byte_of_add y r answer l (inl e) h = at_N8b y r answer (subst (λ (m : Label). (x : Seat) → FitsWant (want_at y x r m) answer) e h)
byte_of_add y r answer l (inr e) h = at_N11 y r answer (subst (λ (m : Label). (x : Seat) → FitsWant (want_at y x r m) answer) e h)

-- being led on changes no byte that was read
led_last : (d : AddNext) (r : Monarch) → (after_add d r).last ≡ r.last
led_last (AddsAt l a) r = refl
led_last (Ends o) r = refl

-- the row's bytes, where the byte that was read is noted at N8b and N11 alone
record IsNoted (l : Label) (r : Monarch) (v : ℕ) (new : List ℕ) : Type 0 where
  read : ReadsByte l → new ≡ slice_set r.last r.add.slot v
  other : l ≢ N8b → l ≢ N11 → new ≡ r.last

row_noted : (y : Layout) (x : Seat) (r : Monarch) (v : ℕ) (new : List ℕ) (w : Row) → IsNoted (label_of w) r v new → (next_at y x r (label_of w) v).monarch.last ≡ new
row_noted y x r v new row.NB h = sym (h.other (λ e. cc) (λ e. cc))
row_noted y x r v new row.N0 h = sym (h.other (λ e. cc) (λ e. cc))
row_noted y x r v new row.N1 h = sym (h.other (λ e. cc) (λ e. cc))
row_noted y x r v new row.N2 h = sym (h.other (λ e. cc) (λ e. cc))
row_noted y x r v new row.N3 h = sym (h.other (λ e. cc) (λ e. cc))
row_noted y x r v new row.N4 h = sym (h.other (λ e. cc) (λ e. cc))
row_noted y x r v new row.N5 h = sym (h.other (λ e. cc) (λ e. cc))
row_noted y x r v new row.N6 h = sym (h.other (λ e. cc) (λ e. cc))
row_noted y x r v new row.N7 h = sym (h.other (λ e. cc) (λ e. cc))
row_noted y x r v new row.N8a h = led_last (saw_flag v r.add) r ∙ sym (h.other (λ e. cc) (λ e. cc))
row_noted y x r v new row.N8b h = led_last (saw_pair v r.add) (noted r.add.slot v r) ∙ sym (h.read (inl refl))
row_noted y x r v new row.N9 h = led_last (shut r.add) r ∙ sym (h.other (λ e. cc) (λ e. cc))
row_noted y x r v new row.N10 h = sym (h.other (λ e. cc) (λ e. cc))
row_noted y x r v new row.N11 h = led_last (saw_arrival v r.add) (noted r.add.slot v r) ∙ sym (h.read (inr refl))

pub add_noted : (y : Layout) (x : Seat) (r : Monarch) (l : Label) (v : ℕ) (new : List ℕ) → IsOfAdd l → (ReadsByte l → new ≡ slice_set r.last r.add.slot v) → (l ≢ N8b → l ≢ N11 → new ≡ r.last) → (next_at y x r l v).monarch.last ≡ new
add_noted y x r l v new of read other =
    subst (λ (m : Label). (next_at y x r m v).monarch.last ≡ new) (sym of.is)
    (row_noted y x r v new of.row (subst (λ (m : Label). IsNoted m r v new) of.is (record { read = read; other = other })))
