-- Which worked runs the host events of their files host, with which marks, and which they don't.
use Rattle.std.proofs.Common.{◌≡◌, ℕ, ◌==◌, ◌≤◌, Bool, true, false, List, [], ◌∷◌, length, take, Some, None, slice_get, refl, sym, ap, subst, ◌∙◌, arith}
use Rattle.std.specs.Prelude.{⊤}
use Rattle.std.specs.Option.{is_some}
use Rattle.std.proofs.lemmas.Option.{same_Some, none-some}
use Rattle.std.proofs.lemmas.Bool.Decides.{nat_tests}
use Rattle.hp_model.specs.declared.accesses.Access.TheVariants.{Out}
use Rattle.hp_model.specs.declared.entries.Actor.TheVariants as actor
use Rattle.hp_model.specs.declared.entries.Event.TheVariants.{Insert, Do, TakeSmi}
use Rattle.hp_model.specs.declared.entries.Entry.{Entry}
use Rattle.hp_model.specs.Hosting.{IsHosted, IsMadeAt, IsMarked, owner_of}
use Rattle.hp_model.specs.Runs.{run}
use Rattle.hp_worked.specs.Adds.{an_add}
use Rattle.hp_worked.specs.Ejects.{ejected_and_added_again}
use Rattle.hp_worked.specs.Entries.{does, takes_smi, inserts}
use Rattle.hp_worked.specs.Files.{an_add_file, host_events_file, ejected_and_added_again_file}
use Rattle.hp_worked.specs.Followed.{insert_left_out}
use Rattle.hp_worked.specs.Traces.{host_events}
use Rattle.hp_worked.proofs.Hosting.{takes, each_made, rises, is_marked, each_marked, is_hosted, is_hosted-it, made_where}
use Rattle.hp_worked.proofs.Opened.{the_run}

-- the test that they host, computed
unfoldable the_host : ⊤
unfolding the_run each_made rises is_marked each_marked
the_host = tt

hosts_an_add : is_hosted an_add_file.platform an_add 27 (actor.Insert 1 ∷ []) (27 ∷ []) ≡ true
unfolding the_host an_add
hosts_an_add = refl

pub an_add_is_hosted : IsHosted an_add_file.platform an_add 27 (actor.Insert 1 ∷ []) (27 ∷ [])
an_add_is_hosted = is_hosted-it an_add_file.platform an_add 27 (actor.Insert 1 ∷ []) (27 ∷ []) hosts_an_add

hosts_host_events : is_hosted host_events_file.platform host_events 27 (actor.Insert 2 ∷ actor.Remove 1 ∷ []) (27 ∷ 28 ∷ []) ≡ true
unfolding the_host host_events
hosts_host_events = refl

pub host_events_are_hosted : IsHosted host_events_file.platform host_events 27 (actor.Insert 2 ∷ actor.Remove 1 ∷ []) (27 ∷ 28 ∷ [])
host_events_are_hosted = is_hosted-it host_events_file.platform host_events 27 (actor.Insert 2 ∷ actor.Remove 1 ∷ []) (27 ∷ 28 ∷ []) hosts_host_events

hosts_both_adds : is_hosted ejected_and_added_again_file.platform ejected_and_added_again 27 (actor.Insert 1 ∷ actor.Insert 1 ∷ []) (27 ∷ 125 ∷ []) ≡ true
unfolding the_host ejected_and_added_again
hosts_both_adds = refl

pub both_adds_are_hosted : IsHosted ejected_and_added_again_file.platform ejected_and_added_again 27 (actor.Insert 1 ∷ actor.Insert 1 ∷ []) (27 ∷ 125 ∷ [])
both_adds_are_hosted =
    is_hosted-it ejected_and_added_again_file.platform ejected_and_added_again 27 (actor.Insert 1 ∷ actor.Insert 1 ∷ []) (27 ∷ 125 ∷ []) hosts_both_adds

-- the second insert finds its processor there, and is no step
hosts_two_inserts : is_hosted an_add_file.platform an_add 27 (actor.Insert 1 ∷ actor.Insert 1 ∷ []) (27 ∷ 28 ∷ []) ≡ true
unfolding the_host an_add
hosts_two_inserts = refl

pub an_add_of_two_inserts_is_hosted : IsHosted an_add_file.platform an_add 27 (actor.Insert 1 ∷ actor.Insert 1 ∷ []) (27 ∷ 28 ∷ [])
an_add_of_two_inserts_is_hosted = is_hosted-it an_add_file.platform an_add 27 (actor.Insert 1 ∷ actor.Insert 1 ∷ []) (27 ∷ 28 ∷ []) hosts_two_inserts

-- marks don't fall
pub swapped_host_events_are_not : IsHosted host_events_file.platform host_events 27 (actor.Insert 2 ∷ actor.Remove 1 ∷ []) (28 ∷ 27 ∷ []) → ⊥
swapped_host_events_are_not h = grind (arith, h.rise 0 1 28 27 (grind (arith)) refl refl)

pub swapped_adds_are_not : IsHosted ejected_and_added_again_file.platform ejected_and_added_again 27 (actor.Insert 1 ∷ actor.Insert 1 ∷ []) (125 ∷ 27 ∷ []) → ⊥
swapped_adds_are_not h = grind (arith, h.rise 0 1 125 27 (grind (arith)) refl refl)

-- two host events don't share an entry
takes_insert : takes an_add_file.platform (run an_add_file.platform (take 27 an_add)) (Insert 1) ≡ true
unfolding the_run an_add
takes_insert = refl

pub inserts_at_one_mark_are_not : IsHosted an_add_file.platform an_add 27 (actor.Insert 1 ∷ actor.Insert 1 ∷ []) (27 ∷ 27 ∷ []) → ⊥
inserts_at_one_mark_are_not h = below (made_where an_add_file.platform an_add 27 (actor.Insert 1 ∷ actor.Insert 1 ∷ []) (27 ∷ 27 ∷ []) 0 27 (actor.Insert 1) h refl refl refl takes_insert)
  where
    below : IsMadeAt an_add (27 ∷ 27 ∷ []) 0 27 (Insert 1) → ⊥
    below made = grind (arith, made.next 27 refl)

-- without a host event the insert's entry is nobody's
insert_at_27 : slice_get an_add 27 ≡ Some (inserts 1)
unfolding the_run an_add
insert_at_27 = refl

pub an_add_needs_a_host : (marks : List ℕ) → IsHosted an_add_file.platform an_add 27 [] marks → ⊥
an_add_needs_a_host marks h = none-some (owner_of an_add_file.platform (Insert 1)) (found.actor)
  where
    found : IsMarked an_add_file.platform [] marks 27 (inserts 1)
    found = h.only 27 (inserts 1) (grind (arith)) insert_at_27 refl

-- a run without the insert takes it after each of its entries from there on
takes_at_27 : takes an_add_file.platform (run an_add_file.platform (take 27 insert_left_out)) (Insert 1) ≡ true
unfolding the_run insert_left_out
takes_at_27 = refl

takes_at_28 : takes an_add_file.platform (run an_add_file.platform (take 28 insert_left_out)) (Insert 1) ≡ true
unfolding the_run insert_left_out
takes_at_28 = refl

takes_at_29 : takes an_add_file.platform (run an_add_file.platform (take 29 insert_left_out)) (Insert 1) ≡ true
unfolding the_run insert_left_out
takes_at_29 = refl

-- and these are an access and an SMI entry
at_27 : slice_get insert_left_out 27 ≡ Some (does 0 (Out 0xb2 1 0x4))
unfolding the_run insert_left_out
at_27 = refl

at_28 : slice_get insert_left_out 28 ≡ Some (takes_smi 0)
unfolding the_run insert_left_out
at_28 = refl

at_29 : slice_get insert_left_out 29 ≡ None
unfolding the_run insert_left_out
at_29 = refl

left_out_has_29 : length insert_left_out ≡ 29
unfolding the_run insert_left_out
left_out_has_29 = refl

pub left_out_runs : is_some (run an_add_file.platform insert_left_out) ≡ true
unfolding the_run insert_left_out
left_out_runs = refl

no_insert : (x e : Entry) → Some x ≡ Some e → e.event ≡ Insert 1 → x.event ≡ Insert 1
no_insert x e same is = ap (λ y. y.event) (same_Some x e same) ∙ is

not_at_27 : IsMadeAt insert_left_out (27 ∷ []) 0 27 (Insert 1) → ⊥
not_at_27 h = different (no_insert (does 0 (Out 0xb2 1 0x4)) h.entry (sym at_27 ∙ h.at) h.event)
  where
    different : Do 0 (Out 0xb2 1 0x4) ≡ Insert 1 → ⊥
    different e = absurd cc

not_at_28 : IsMadeAt insert_left_out (28 ∷ []) 0 28 (Insert 1) → ⊥
not_at_28 h = different (no_insert (takes_smi 0) h.entry (sym at_28 ∙ h.at) h.event)
  where
    different : TakeSmi 0 ≡ Insert 1 → ⊥
    different e = absurd cc

not_at_29 : IsMadeAt insert_left_out (29 ∷ []) 0 29 (Insert 1) → ⊥
not_at_29 h = none-some h.entry (sym at_29 ∙ h.at)

unmade : (m : ℕ) → takes an_add_file.platform (run an_add_file.platform (take m insert_left_out)) (Insert 1) ≡ true → (IsMadeAt insert_left_out (m ∷ []) 0 m (Insert 1) → ⊥) →
    IsHosted an_add_file.platform insert_left_out 27 (actor.Insert 1 ∷ []) (m ∷ []) → ⊥
unmade m taken none h = none (made_where an_add_file.platform insert_left_out 27 (actor.Insert 1 ∷ []) (m ∷ []) 0 m (actor.Insert 1) h refl refl refl taken)

-- the places from 27 to 29
by_place : (P : ℕ → Type 0) → P 27 → P 28 → P 29 → (m : ℕ) → 27 ≤ m → m ≤ 29 → P m
by_place P at27 at28 at29 m low high = first (m == 27) refl
  where
    third : (m == 27) ≡ false → (m == 28) ≡ false → P m
    third not_27 not_28 = let is : m ≡ 29 = grind (arith, nat_tests, low, high, not_27, not_28) in subst P (sym is) at29

    second : (b : Bool) → (m == 28) ≡ b → (m == 27) ≡ false → P m
    second true e not_27 = let is : m ≡ 28 = grind (arith, nat_tests, e) in subst P (sym is) at28
    second false e not_27 = third not_27 e

    first : (b : Bool) → (m == 27) ≡ b → P m
    first true e = let is : m ≡ 27 = grind (arith, nat_tests, e) in subst P (sym is) at27
    first false e = second (m == 28) refl e

-- without the insert's entry its turn has made nothing, whichever turn it was
pub left_out_is_not_hosted : (marks : List ℕ) → IsHosted an_add_file.platform insert_left_out 27 (actor.Insert 1 ∷ []) marks → ⊥
left_out_is_not_hosted [] h = absurd (grind (arith, h.many))
left_out_is_not_hosted (m ∷ []) h =
    by_place (λ k. IsHosted an_add_file.platform insert_left_out 27 (actor.Insert 1 ∷ []) (k ∷ []) → ⊥) (unmade 27 takes_at_27 not_at_27) (unmade 28 takes_at_28 not_at_28)
    (unmade 29 takes_at_29 not_at_29) m (h.within 0 m refl).0 (subst (λ k. m ≤ k) left_out_has_29 (h.within 0 m refl).1) h
left_out_is_not_hosted (m ∷ (n ∷ ms)) h = absurd (grind (arith, h.many))

pub ruleset hosted = (an_add_is_hosted, host_events_are_hosted, both_adds_are_hosted, an_add_of_two_inserts_is_hosted)

pub ruleset not_hosted = (swapped_host_events_are_not, swapped_adds_are_not, inserts_at_one_mark_are_not, an_add_needs_a_host, left_out_runs, left_out_is_not_hosted)
