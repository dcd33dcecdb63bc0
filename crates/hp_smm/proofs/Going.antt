-- The monarch's rows: what they want is the same whoever looks, and the label where they lead is the record's.
use Rattle.std.proofs.Common.{◌≡◌, ℕ, refl, sym, subst, ap, ◌∙◌}
use Rattle.hp_model.specs.declared.accesses.Answer.{Answer}
use Rattle.hp_model.specs.declared.accesses.Want.{Want}
use Rattle.std.proofs.Common.{Option}
use Rattle.hp_model.specs.Fitting.{FitsWant}
use Rattle.hp_monarch.specs.Session.{Fits, Session}
use Rattle.hp_model.specs.declared.labels.Label.{Label}
use Rattle.hp_model.specs.declared.labels.Label.TheVariants.{F1, F2, F3, F4, F5, F6, R1, R2, R3, R4, R5, R6}
use Rattle.hp_model.specs.Handlers.{Seat, by_record, next_at, want_at}
use Rattle.hp_model.specs.declared.labels.Handler.TheVariants.{Monarch as Monarchs}
use Rattle.hp_model.specs.Labels.{handler_of}
use Rattle.hp_model.specs.Monarch.{Monarch}
use Rattle.hp_model.specs.SharedBytes.{Layout}

pub wants_same : (y : Layout) (x z : Seat) (r : Monarch) (l : Label) → handler_of l ≡ Monarchs → want_at y x r l ≡ want_at y z r l
wants_same y x z r F1 e = absurd cc
wants_same y x z r F3 e = absurd cc
wants_same y x z r F5 e = absurd cc
wants_same y x z r R1 e = absurd cc
wants_same y x z r R2 e = absurd cc
wants_same y x z r R3 e = absurd cc
wants_same y x z r R4 e = absurd cc
wants_same y x z r R6 e = absurd cc
wants_same y x z r _ e = refl

pub goes_on : (y : Layout) (x : Seat) (r : Monarch) (l : Label) (v : ℕ) → handler_of l ≡ Monarchs → next_at y x r l v ≡ by_record x (next_at y x r l v).monarch
goes_on y x r F1 v e = absurd cc
goes_on y x r F2 v e = absurd cc
goes_on y x r F3 v e = absurd cc
goes_on y x r F4 v e = absurd cc
goes_on y x r F5 v e = absurd cc
goes_on y x r F6 v e = absurd cc
goes_on y x r R1 v e = absurd cc
goes_on y x r R2 v e = absurd cc
goes_on y x r R3 v e = absurd cc
goes_on y x r R4 v e = absurd cc
goes_on y x r R5 v e = absurd cc
goes_on y x r R6 v e = absurd cc
goes_on y x r _ v e = refl

-- an answer that fits what one who looks sees fits what all see
pub fits_all : (h : Session) (z : Seat) (l : Label) (answer : Answer) → l ≡ h.monarch.label → handler_of l ≡ Monarchs →
    FitsWant (want_at h.layout z h.monarch l) answer → Fits h answer
fits_all h z l answer e p f x =
    subst (λ (w : Option Want). FitsWant w answer) (wants_same h.layout z x h.monarch l p ∙ ap (λ (k : Label). want_at h.layout x h.monarch k) e) f

-- where the monarch goes on
pub next_is : (h n : Session) (z : Seat) (l : Label) (v : ℕ) (after : Label) → l ≡ h.monarch.label → handler_of l ≡ Monarchs →
    n ≡ record h { monarch = (next_at h.layout z h.monarch h.monarch.label v).monarch } → after ≡ n.monarch.label →
    next_at h.layout z h.monarch l v ≡ record { label = after; base = z.base; monarch = n.monarch }
next_is h n z l v after e p fed at =
    let led : n.monarch ≡ (next_at h.layout z h.monarch l v).monarch = ap (λ (s : Session). s.monarch) fed ∙ ap (λ (k : Label). (next_at h.layout z h.monarch k v).monarch) (sym e) in
    let there : after ≡ (next_at h.layout z h.monarch l v).monarch.label = at ∙ ap (λ (m : Monarch). m.label) led in
    goes_on h.layout z h.monarch l v p ∙ same (next_at h.layout z h.monarch l v).monarch n.monarch after z (sym led) (sym there)
  where
    same : (m n : Monarch) (after : Label) (z : Seat) → m ≡ n → m.label ≡ after → by_record z m ≡ record { label = after; base = z.base; monarch = n }
    same m n after z e f = ap (λ (l : Label). record { label = l; base = z.base; monarch = m }) f ∙ ap (λ (k : Monarch). record { label = after; base = z.base; monarch = k }) e
