-- What the running session's entries tell, entry by entry.
use Rattle.std.proofs.Common.{ℕ, ◌≡◌, Bool, true, false, not, ◌&&◌, ◌||◌, List, [], ◌∷◌, ◌++◌, Option, Some, refl, sym, ap, subst, ◌∙◌, if◌then◌else◌}
use Rattle.hp_model.specs.declared.platforms.Platform.{Platform}
use Rattle.hp_model.specs.declared.labels.Label.{Label}
use Rattle.hp_model.specs.declared.labels.Label.TheVariants.{S2, C3, C4, C6, E5}
use Rattle.hp_model.specs.declared.entries.Entry.{Entry}
use Rattle.hp_model.specs.Boot.{value_in}
use Rattle.hp_model.specs.declared.reports.Report.{Report}
use Rattle.hp_model.specs.Transitions.{since, newest}
use Rattle.hp_model.specs.Account.{is_at}
use Rattle.hp_model.specs.Sessions.{bounds_session, session, was_at, value_by, last_value, triple_by, triples, is_called_in, interferes, disturbed_in}

pub record Account : Type 0 where
  pub sent : Bool  -- others were called in
  pub closed : Bool  -- the session has come to its end
  pub disturbed : Bool
  pub reports : List Report
  pub cpu : ℕ  -- the processor that was last found
  pub status : ℕ  -- the status byte that was last read

abbrev pub account_in : Platform → List Entry → Account
account_in p es =
    record {
      sent = was_at p S2 es;
      closed = was_at p E5 es;
      disturbed = disturbed_in p es;
      reports = triples p es;
      cpu = last_value p C3 es;
      status = last_value p C4 es;
    }

abbrev pub account : Platform → List Entry → Account
account p es = account_in p (session es)

abbrev pub account_start : Account
account_start = record { sent = false; closed = false; disturbed = false; reports = []; cpu = 0; status = 0 }

-- one entry of the session more
abbrev pub account_after : Platform → Entry → Account → Account
account_after p e a =
    record {
      sent = is_at p S2 e || a.sent;
      closed = is_at p E5 e || a.closed;
      disturbed = if interferes e then (a.sent && not a.closed) || a.disturbed else a.disturbed;
      reports = if is_at p C6 e then a.reports ++ record { cpu = a.cpu; status = a.status; apic = value_in e.answer } ∷ [] else a.reports;
      cpu = if is_at p C3 e then value_in e.answer else a.cpu;
      status = if is_at p C4 e then value_in e.answer else a.status;
    }

since_bound : {A : Type 0} (kind : A → Bool) (x : A) (xs : List A) → kind x ≡ true → since kind (x ∷ xs) ≡ []
unfolding since
since_bound {A = A} kind x xs is = subst (λ b. (elim b as (λ _. List A) [ true ↦ [] | false ↦ x ∷ since kind xs ]) ≡ []) (sym is) refl

since_more : {A : Type 0} (kind : A → Bool) (x : A) (xs : List A) → kind x ≡ false → since kind (x ∷ xs) ≡ x ∷ since kind xs
unfolding since
since_more {A = A} kind x xs is = subst (λ b. (elim b as (λ _. List A) [ true ↦ [] | false ↦ x ∷ since kind xs ]) ≡ x ∷ since kind xs) (sym is) refl

since_again : {A : Type 0} (kind : A → Bool) (xs : List A) → since kind (since kind xs) ≡ since kind xs
unfolding since
since_again kind [] = refl
since_again {A = A} kind (x ∷ xs) = by_kind (kind x) refl (since_again kind xs)
  where
    by_kind : (b : Bool) → kind x ≡ b → since kind (since kind xs) ≡ since kind xs → since kind (since kind (x ∷ xs)) ≡ since kind (x ∷ xs)
    by_kind true is more = ap (since kind) (since_bound kind x xs is) ∙ sym (since_bound kind x xs is)
    by_kind false is more =
        ap (since kind) (since_more kind x xs is) ∙ (since_more kind x (since kind xs) is ∙ (ap (λ ys. x ∷ ys) more ∙ sym (since_more kind x xs is)))

disturbed_more : (p : Platform) (e : Entry) (es : List Entry) → disturbed_in p (e ∷ es) ≡ (if interferes e then is_called_in p es || disturbed_in p es else disturbed_in p es)
unfolding disturbed_in
disturbed_more p e es = by_test (interferes e)
  where
    by_test : (b : Bool) → (elim b as (λ _. Bool) [ true ↦ is_called_in p es || disturbed_in p es | false ↦ disturbed_in p es ]) ≡ (if b then is_called_in p es || disturbed_in p es else disturbed_in p es)
    by_test true = refl
    by_test false = refl

reports_more : (p : Platform) (e : Entry) (es : List Entry) → triples p (e ∷ es) ≡ (if is_at p C6 e then triples p es ++ triple_by p es e ∷ [] else triples p es)
unfolding triples
reports_more p e es = by_test (is_at p C6 e)
  where
    by_test : (b : Bool) → (elim b as (λ _. List Report) [ true ↦ triples p es ++ triple_by p es e ∷ [] | false ↦ triples p es ]) ≡ (if b then triples p es ++ triple_by p es e ∷ [] else triples p es)
    by_test true = refl
    by_test false = refl

value_more : (p : Platform) (l : Label) (e : Entry) (es : List Entry) → last_value p l (e ∷ es) ≡ (if is_at p l e then value_in e.answer else last_value p l es)
unfolding newest
value_more p l e es = by_test (is_at p l e)
  where
    by_test : (b : Bool) → value_by (elim b as (λ _. Option Entry) [ true ↦ Some e | false ↦ newest (is_at p l) es ]) ≡ (if b then value_in e.answer else value_by (newest (is_at p l) es))
    by_test true = refl
    by_test false = refl

-- while others are called in, in the session of a session's entries
within_more : (p : Platform) (e : Entry) (es : List Entry) → session es ≡ es → account_in p (e ∷ es) ≡ account_after p e (account_in p es)
within_more p e es again =
    let called : is_called_in p es ≡ (was_at p S2 es && not (was_at p E5 es)) = ap (λ fs. was_at p S2 fs && not (was_at p E5 fs)) again in
    rw (disturbed_more p e es, reports_more p e es, value_more p C3 e es, value_more p C4 e es, called) refl

pub account_more : (p : Platform) (e : Entry) (es : List Entry) → bounds_session e ≡ false → account p (e ∷ es) ≡ account_after p e (account p es)
account_more p e es within = ap (account_in p) (since_more bounds_session e es within) ∙ within_more p e (session es) (since_again bounds_session es)

pub account_bound : (p : Platform) (e : Entry) (es : List Entry) → bounds_session e ≡ true → account p (e ∷ es) ≡ account_start
unfolding triples disturbed_in newest
account_bound p e es bound = ap (account_in p) (since_bound bounds_session e es bound)
