-- What the entries of an outcome show of an add, and what one entry more makes of it.
use Rattle.std.proofs.Common.{ℕ, suc, ◌≡◌, ◌+◌, ◌==◌, Bool, true, false, ◌&&◌, ◌||◌, List, [], ◌∷◌, length, filter, drop, Some, None, refl, sym, ap, ◌∙◌, arith, if◌then◌else◌}
use Rattle.std.specs.List.{list_any}
use Rattle.hp_model.specs.declared.platforms.Platform.{Platform}
use Rattle.hp_model.specs.declared.labels.Label.{Label}
use Rattle.hp_model.specs.declared.labels.Label.TheVariants.{N7, N8a, N8b, N9, N10, N11}
use Rattle.hp_model.specs.declared.entries.Entry.{Entry}
use Rattle.hp_model.specs.Boot.{value_in}
use Rattle.hp_model.specs.Block.{is_in}
use Rattle.hp_model.specs.declared.labels.Handler.TheVariants.{Monarch as Monarchs}
use Rattle.hp_model.specs.Labels.{handler_of, index_of}
use Rattle.hp_model.specs.Events.{is_access_of}
use Rattle.hp_model.specs.Transitions.{Transition, entries_of, since, older_than, newest}
use Rattle.hp_model.specs.Account.{is_at}
use Rattle.hp_model.specs.Sessions.{ends_outcome}
use Rattle.hp_model.specs.Outcomes.{own_of, values_at, opens, is_last_look, was_seen}
use Rattle.hp_safety.proofs.Backward.{newest_it, newest_other, older_it, older_other, since_it, since_other}

-- the entries of the running outcome, and those before them
abbrev pub own : Platform → List Entry → List Entry
own p es = since (ends_outcome p) es

abbrev pub before : Platform → List Entry → List Entry
before p es = drop (length (own p es)) es

-- what they show of an add of this APIC ID, newest first
pub record Trail : Type 0 where
  pub opened : ℕ  -- how many have opened the gate for it
  pub flags : List ℕ  -- what was read at N8a since the last N7, and at N8b
  pub pairs : List ℕ
  pub seen : Bool  -- whether one of these, before the N10 after that N7, was 1
  pub arrivals : List ℕ  -- what was read at N11 since that N10
  pub any : Bool  -- whether one has opened the gate for it
  pub shut : Bool  -- before the last N9
  pub entered : Bool  -- before the last N9 before the last N10
  pub arrived : Bool  -- whether the last access of processor 0 has read 1 at N11

abbrev pub trail_of : Platform → ℕ → List Entry → Trail
trail_of p apic xs =
    record {
      opened = length (filter (opens p apic) xs);
      flags = values_at p N8a (since (is_at p N7) xs);
      pairs = values_at p N8b (since (is_at p N7) xs);
      seen = was_seen p (older_than (is_at p N10) (since (is_at p N7) xs));
      arrivals = values_at p N11 (since (is_at p N10) (since (is_at p N7) xs));
      any = list_any (opens p apic) xs;
      shut = list_any (opens p apic) (older_than (is_at p N9) xs);
      entered = list_any (opens p apic) (older_than (is_at p N9) (older_than (is_at p N10) xs));
      arrived = is_last_look p (newest (λ e. is_access_of 0 e.event) xs);
    }

abbrev pub no_trail : Trail
no_trail = record { opened = 0; flags = []; pairs = []; seen = false; arrivals = []; any = false; shut = false; entered = false; arrived = false }

-- after an access of the monarch at a label with this answer
abbrev pub trail_after : Label → ℕ → Trail → Trail
trail_after l v t =
    record {
      opened = if index_of l == 19 then t.opened + 1 else t.opened;
      flags = if index_of l == 19 then [] else if index_of l == 20 then v ∷ t.flags else t.flags;
      pairs = if index_of l == 19 then [] else if index_of l == 21 then v ∷ t.pairs else t.pairs;
      seen = if index_of l == 19 then false else if index_of l == 23 then is_in 1 t.flags || is_in 1 t.pairs else t.seen;
      arrivals = if index_of l == 19 then [] else if index_of l == 23 then [] else if index_of l == 24 then v ∷ t.arrivals else t.arrivals;
      any = (index_of l == 19) || t.any;
      shut = if index_of l == 22 then t.any else t.shut;
      entered = if index_of l == 23 then t.shut else t.entered;
      arrived = (index_of l == 24) && (v == 1);
    }

-- lists, newest first, over one item more
since_more : (kind : Entry → Bool) (e : Entry) (xs : List Entry) → since kind (e ∷ xs) ≡ (if kind e then [] else e ∷ since kind xs)
since_more kind e xs = by_test (kind e) refl
  where
    by_test : (b : Bool) → kind e ≡ b → since kind (e ∷ xs) ≡ (if b then [] else e ∷ since kind xs)
    by_test true is = since_it kind e xs is
    by_test false is = since_other kind e xs is

older_more : (kind : Entry → Bool) (e : Entry) (xs : List Entry) → older_than kind (e ∷ xs) ≡ (if kind e then xs else older_than kind xs)
older_more kind e xs = by_test (kind e) refl
  where
    by_test : (b : Bool) → kind e ≡ b → older_than kind (e ∷ xs) ≡ (if b then xs else older_than kind xs)
    by_test true is = older_it kind e xs is
    by_test false is = older_other kind e xs is

newest_more : (kind : Entry → Bool) (e : Entry) (xs : List Entry) → newest kind (e ∷ xs) ≡ (if kind e then Some e else newest kind xs)
newest_more kind e xs = by_test (kind e) refl
  where
    by_test : (b : Bool) → kind e ≡ b → newest kind (e ∷ xs) ≡ (if b then Some e else newest kind xs)
    by_test true is = newest_it kind e xs is
    by_test false is = newest_other kind e xs is

no_since : (kind : Entry → Bool) → since kind [] ≡ []
unfolding since
no_since kind = refl

no_older : (kind : Entry → Bool) → older_than kind [] ≡ []
unfolding older_than
no_older kind = refl

no_newest : (kind : Entry → Bool) → newest kind [] ≡ None
unfolding newest
no_newest kind = refl

pub trail_none : (p : Platform) (apic : ℕ) → trail_of p apic [] ≡ no_trail
trail_none p apic = rw (no_since (is_at p N7), no_older (is_at p N10), no_since (is_at p N10), no_older (is_at p N9), no_newest (λ (e : Entry). is_access_of 0 e.event)) refl

-- the fields over one entry more
module _ (p : Platform) (apic : ℕ) (e : Entry) (xs : List Entry) where
  abbrev third : List Entry
  third = since (is_at p N7) xs

  opened_more : (b : Bool) → opens p apic e ≡ b → length (filter (opens p apic) (e ∷ xs)) ≡ (if b then length (filter (opens p apic) xs) + 1 else length (filter (opens p apic) xs))
  opened_more true is = rw is (omega arith)
  opened_more false is = rw is refl

  values_more : (l : Label) (b c : Bool) → is_at p N7 e ≡ b → is_at p l e ≡ c → values_at p l (since (is_at p N7) (e ∷ xs)) ≡ (if b then [] else if c then value_in e.answer ∷ values_at p l third else values_at p l third)
  values_more l true c is at = rw (since_more (is_at p N7) e xs, is) refl
  values_more l false true is at = rw (since_more (is_at p N7) e xs, is, at) refl
  values_more l false false is at = rw (since_more (is_at p N7) e xs, is, at) refl

  seen_more : (b c : Bool) → is_at p N7 e ≡ b → is_at p N10 e ≡ c → was_seen p (older_than (is_at p N10) (since (is_at p N7) (e ∷ xs))) ≡ (if b then false else if c then was_seen p third else was_seen p (older_than (is_at p N10) third))
  seen_more true c is at = rw (since_more (is_at p N7) e xs, is, no_older (is_at p N10)) refl
  seen_more false true is at = rw (since_more (is_at p N7) e xs, is, older_more (is_at p N10) e third, at) refl
  seen_more false false is at = rw (since_more (is_at p N7) e xs, is, older_more (is_at p N10) e third, at) refl

  arrivals_more : (b c d : Bool) → is_at p N7 e ≡ b → is_at p N10 e ≡ c → is_at p N11 e ≡ d
      → values_at p N11 (since (is_at p N10) (since (is_at p N7) (e ∷ xs))) ≡ (if b then [] else if c then [] else if d then value_in e.answer ∷ values_at p N11 (since (is_at p N10) third) else values_at p N11 (since (is_at p N10) third))
  arrivals_more true c d is at look = rw (since_more (is_at p N7) e xs, is, no_since (is_at p N10)) refl
  arrivals_more false true d is at look = rw (since_more (is_at p N7) e xs, is, since_more (is_at p N10) e third, at) refl
  arrivals_more false false true is at look = rw (since_more (is_at p N7) e xs, is, since_more (is_at p N10) e third, at, look) refl
  arrivals_more false false false is at look = rw (since_more (is_at p N7) e xs, is, since_more (is_at p N10) e third, at, look) refl

  any_more : (b : Bool) → opens p apic e ≡ b → list_any (opens p apic) (e ∷ xs) ≡ (b || list_any (opens p apic) xs)
  any_more b is = rw is refl

  shut_more : (b : Bool) → is_at p N9 e ≡ b → list_any (opens p apic) (older_than (is_at p N9) (e ∷ xs)) ≡ (if b then list_any (opens p apic) xs else list_any (opens p apic) (older_than (is_at p N9) xs))
  shut_more true is = rw (older_more (is_at p N9) e xs, is) refl
  shut_more false is = rw (older_more (is_at p N9) e xs, is) refl

  entered_more : (b : Bool) → is_at p N10 e ≡ b
      → list_any (opens p apic) (older_than (is_at p N9) (older_than (is_at p N10) (e ∷ xs))) ≡ (if b then list_any (opens p apic) (older_than (is_at p N9) xs) else list_any (opens p apic) (older_than (is_at p N9) (older_than (is_at p N10) xs)))
  entered_more true is = rw (older_more (is_at p N10) e xs, is) refl
  entered_more false is = rw (older_more (is_at p N10) e xs, is) refl

  -- an access of the monarch
  pub trail_made : (l : Label) → is_access_of 0 e.event ≡ true → ((m : Label) → handler_of m ≡ Monarchs → is_at p m e ≡ (index_of l == index_of m)) → opens p apic e ≡ (index_of l == 19) → trail_of p apic (e ∷ xs) ≡ trail_after l (value_in e.answer) (trail_of p apic xs)
  trail_made l made at opened =
      rw (
        opened_more (index_of l == 19) opened,
        values_more N8a (index_of l == 19) (index_of l == 20) (at N7 refl) (at N8a refl),
        values_more N8b (index_of l == 19) (index_of l == 21) (at N7 refl) (at N8b refl),
        seen_more (index_of l == 19) (index_of l == 23) (at N7 refl) (at N10 refl),
        arrivals_more (index_of l == 19) (index_of l == 23) (index_of l == 24) (at N7 refl) (at N10 refl) (at N11 refl),
        any_more (index_of l == 19) opened,
        shut_more (index_of l == 22) (at N9 refl),
        entered_more (index_of l == 23) (at N10 refl),
        newest_more (λ (x : Entry). is_access_of 0 x.event) e xs,
        made,
        at N11 refl,
      ) refl

  -- an entry at none of its labels, and no access of processor 0
  pub trail_still : is_access_of 0 e.event ≡ false → ((m : Label) → handler_of m ≡ Monarchs → is_at p m e ≡ false) → trail_of p apic (e ∷ xs) ≡ trail_of p apic xs
  trail_still made at =
      let seven = at N7 refl in
      let none : opens p apic e ≡ false = rw seven refl in
      rw (
        opened_more false none,
        values_more N8a false false seven (at N8a refl),
        values_more N8b false false seven (at N8b refl),
        seen_more false false seven (at N10 refl),
        arrivals_more false false false seven (at N10 refl) (at N11 refl),
        any_more false none,
        shut_more false (at N9 refl),
        entered_more false (at N10 refl),
        newest_more (λ (x : Entry). is_access_of 0 x.event) e xs,
        made,
      ) refl

-- what one entry more makes of the entries of the outcome and of those before them
pub own_more : (p : Platform) (e : Entry) (es : List Entry) → ends_outcome p e ≡ false → own p (e ∷ es) ≡ e ∷ own p es
own_more p e es is = since_other (ends_outcome p) e es is

pub own_ends : (p : Platform) (e : Entry) (es : List Entry) → ends_outcome p e ≡ true → own p (e ∷ es) ≡ []
own_ends p e es is = since_it (ends_outcome p) e es is

pub before_more : (p : Platform) (e : Entry) (es : List Entry) → ends_outcome p e ≡ false → before p (e ∷ es) ≡ before p es
before_more p e es is = rw (own_more p e es is) refl

pub before_ends : (p : Platform) (e : Entry) (es : List Entry) → ends_outcome p e ≡ true → before p (e ∷ es) ≡ e ∷ es
before_ends p e es is = rw (own_ends p e es is) refl

-- of transitions
pub own_entries : (p : Platform) (past : List Transition) → entries_of (own_of p past) ≡ own p (entries_of past)
unfolding since
own_entries p [] = refl
own_entries p (x ∷ past) = by_test (ends_outcome p x.entry) refl (own_entries p past)
  where
    by_test : (b : Bool) → ends_outcome p x.entry ≡ b → entries_of (own_of p past) ≡ own p (entries_of past) → entries_of (own_of p (x ∷ past)) ≡ own p (entries_of (x ∷ past))
    by_test true is more = rw (is, since) refl
    by_test false is more = rw (is, since) (ap (λ es. x.entry ∷ es) more)

length-entries : (xs : List Transition) → length (entries_of xs) ≡ length xs
length-entries [] = refl
length-entries (x ∷ xs) = ap suc (length-entries xs)

pub own_size : (p : Platform) (past : List Transition) → length (own_of p past) ≡ length (own p (entries_of past))
own_size p past = sym (length-entries (own_of p past)) ∙ ap length (own_entries p past)
