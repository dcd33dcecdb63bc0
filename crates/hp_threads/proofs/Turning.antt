-- A turn keeps what is kept since entry.
use Rattle.std.proofs.Common.{◌≡◌, ◌≢◌, ◌≤◌, ◌<◌, ◌⊎◌, inl, inr, ℕ, ◌+◌, ◌-◌, ◌^◌, Bool, true, false, cond, List, [], ◌∷◌, ◌++◌, length, take, Option, Some, None, refl, sym, ap, subst, ◌∙◌, arith, append_assoc}
use Rattle.std.specs.Prelude.{slice_get, slice_index_or, slice_set}
use Rattle.std.proofs.lemmas.Bool.{cases_eq}
use Rattle.std.proofs.lemmas.List.{length-append, length-map, get_or-set_same, get_or-set_other}
use Rattle.hp_model.specs.declared.platforms.Platform.{Platform}
use Rattle.hp_model.specs.declared.accesses.Answer.{Answer}
use Rattle.hp_model.specs.declared.entries.Actor.{Actor}
use Rattle.hp_model.specs.declared.entries.Actor.TheVariants.{Cpu, Smi}
use Rattle.hp_model.specs.declared.entries.Entry.{Entry}
use Rattle.hp_model.specs.declared.files.HostEvent.{HostEvent}
use Rattle.hp_model.specs.declared.turns.Due.{Due}
use Rattle.hp_model.specs.Block.{ejected_by}
use Rattle.hp_model.specs.Boot.{Stage, Boots, Refused, Handed, is_handed, stage_after}
use Rattle.hp_model.specs.Following.{Carried, Follows, carried_all, follows_by, last_by, voices_by, without_agent}
use Rattle.hp_model.specs.Hosting.{IsHosted, is_host, owner_of}
use Rattle.hp_model.specs.Platform.{count_of, is_late}
use Rattle.hp_model.specs.Runs.{run}
use Rattle.hp_model.specs.Schedule.{turn_actor}
use Rattle.hp_model.specs.Step.{after, answer_of}
use Rattle.hp_model.specs.Turn.{due_of}
use Rattle.hp_model.specs.Voices.{Voice}
use Rattle.hp_model.proofs.Scheduled.{run-more}
use Rattle.hp_platform.specs.declared.worlds.Turn.{Turn}
use Rattle.hp_platform.specs.declared.worlds.Turn.TheVariants.{Made, Idle}
use Rattle.hp_platform.specs.World.{IsIdle, IsMade, IsSound, IsStepOf, IsTurned, World, agents_of, counted, counted_at, idle_place_of, noted, noted_at}
use Rattle.hp_platform.proofs.Turning.{taken}
use Rattle.hp_threads.specs.Running.{IsKept, host_actors}
use Rattle.hp_threads.specs.Shares.{share}
use Rattle.hp_threads.specs.Sharing.{IsIdleSince, IsShared, KeepsShare, owned_by, same_actor}
use Rattle.hp_threads.specs.Voicing.{IsCarried, carried_from}
use Rattle.hp_threads.proofs.Lists.{get_within, length-snoc, take_next}
use Rattle.hp_threads.proofs.Counting.{IsPlaced, counted_here, counted_other, host_proper, idle_host, idle_turn, owned_more, no_cpu, no_smi, one_place, other_cpu, other_smi, owns, place_host, place_turn, same-is, turn_no_host, turn_proper}
use Rattle.hp_threads.proofs.Carrying as of_turn
use Rattle.hp_threads.proofs.Dividing.{cpu_next, smi_next}
use Rattle.hp_threads.proofs.Hosting.{hosted_idle, hosted_made, hosted_other}

-- what is handed over stays so
stays_handed : (mib : ℕ) (v : Answer) (g : Stage) → is_handed g ≡ true → is_handed (stage_after mib v g) ≡ true
stays_handed mib v (Boots done supported) is = absurd cc
stays_handed mib v (Refused fact) is = absurd cc
stays_handed mib v (Handed requested) is = refl

-- an actor's share: as many entries more as turns of its share
keeps_on : (entry w w' : World) (es fs : List Entry) (a : Actor) (rose rose' n : ℕ) → KeepsShare entry w es a rose → owned_by entry.platform a fs ≡ owned_by entry.platform a es + n →
    share entry.platform.delivery a rose' ≡ share entry.platform.delivery a rose + n →
    ((place : ℕ) → idle_place_of entry.platform a ≡ Some place → slice_index_or w'.idle place None ≡ slice_index_or w.idle place None) → KeepsShare entry w' fs a rose'
keeps_on entry w w' es fs a rose rose' n was count part notes = record {
  most = omega (arith, count, part, was.most);
  fewer = λ less.
      let idle = was.fewer (omega (arith, count, part, less)) in
      record { place = idle.place; after = idle.after; is_place = idle.is_place; idle = notes idle.place idle.is_place ∙ idle.idle; since = idle.since };
}

-- and a turn without an entry, which was noted
keeps_idle : (entry w w' : World) (es : List Entry) (a : Actor) (rose rose' n : ℕ) → KeepsShare entry w es a rose → share entry.platform.delivery a rose' ≡ share entry.platform.delivery a rose + n →
    IsIdleSince entry.platform w' (length entry.entries) a → KeepsShare entry w' es a rose'
keeps_idle entry w w' es a rose rose' n was part idle = record { most = omega (arith, part, was.most); fewer = λ less. idle }

nothing : (n : ℕ) → n ≡ n + 0
nothing n = omega arith

-- a processor that had no turn
shared_same : (entry w w' : World) (turns : ℕ) (es fs : List Entry) (k : ℕ) → IsShared entry w turns es k → slice_index_or w'.asked k 0 ≡ slice_index_or w.asked k 0 →
    owned_by entry.platform (Cpu k) fs ≡ owned_by entry.platform (Cpu k) es + 0 → owned_by entry.platform (Smi k) fs ≡ owned_by entry.platform (Smi k) es + 0 →
    ((place : ℕ) → idle_place_of entry.platform (Cpu k) ≡ Some place → slice_index_or w'.idle place None ≡ slice_index_or w.idle place None) →
    ((place : ℕ) → idle_place_of entry.platform (Smi k) ≡ Some place → slice_index_or w'.idle place None ≡ slice_index_or w.idle place None) → IsShared entry w' turns fs k
shared_same entry w w' turns es fs k was ns own smi notes smi_notes = record {
  rose = was.rose;
  asked = ns ∙ was.asked;
  within = was.within;
  own = keeps_on entry w w' es fs (Cpu k) was.rose was.rose 0 was.own own (nothing (share entry.platform.delivery (Cpu k) was.rose)) notes;
  smi = keeps_on entry w w' es fs (Smi k) was.rose was.rose 0 was.smi smi (nothing (share entry.platform.delivery (Smi k) was.rose)) smi_notes;
}

module _ (entry old new : World) (turns : ℕ) (hosts : List HostEvent) (marks : List ℕ) (kept : IsKept entry turns hosts (record { world = old; marks = marks })) (sound : IsSound old)
    (same : new.platform ≡ old.platform) where
  abbrev p : Platform
  p = entry.platform

  abbrev count : ℕ
  count = count_of p

  abbrev from : ℕ
  from = length entry.entries

  -- the world before the turn, with the platform at entry
  abbrev before : World
  before = record old { platform = p }

  abbrev began : Carried
  began = carried_from entry kept.state

  abbrev c : Carried
  c = carried_all p began kept.added

  turned_at : (a : Actor) (t : Turn) → IsTurned old new a t → IsTurned before new a t
  turned_at a t turned = subst (λ (q : Platform). IsTurned (record old { platform = q }) new a t) kept.platform turned

  sound_at : IsSound before
  sound_at = subst (λ (q : Platform). IsSound (record old { platform = q })) kept.platform sound

  since : from ≤ length old.entries
  since = omega (arith, ap length kept.entries, length-append entry.entries kept.added)

  small : (place rose : ℕ) → slice_index_or old.asked place 0 ≡ slice_index_or entry.asked place 0 + rose → rose < 2 ^ 63 → slice_index_or old.asked place 0 < 2 ^ 64 - 1
  small place rose is little = omega (arith, is, little, kept.ready.small place)

  carried_before : IsCarried p c before
  carried_before = record { run = kept.carried.run; voices = kept.carried.voices; last = kept.carried.last }

  -- an entry more: what is the same whose turn it was
  module _ (a : Actor) (proper : (j : ℕ) → a ≡ Smi j → is_late p.delivery ≡ true) (e : Entry) (made : IsMade before new a e) where
    abbrev fs : List Entry
    fs = kept.added ++ e ∷ []

    entries_are : new.entries ≡ entry.entries ++ fs
    entries_are = made.entries ∙ ap (λ (es : List Entry). es ++ e ∷ []) kept.entries ∙ append_assoc entry.entries kept.added (e ∷ [])

    its_owner : owner_of p e.event ≡ a
    its_owner = of_turn.its_owner began kept.added before new carried_before a proper e made

    handed_on : is_handed (carried_all p began fs).state.stage ≡ true
    handed_on = ap (λ (d : Carried). is_handed d.state.stage) (of_turn.leads began kept.added before new carried_before a proper e made)
        ∙ stays_handed p.tseg_mib (answer_of c.state e.event) c.state.stage kept.handed

    follows_on : Follows p began fs
    follows_on = of_turn.follows_on began kept.added before new carried_before a proper e made kept.follows

    carried_on : IsCarried p (carried_all p began fs) new
    carried_on = of_turn.carried_on began kept.added before new carried_before a proper e made

    -- of each actor as many entries more as it is the one whose turn it was
    counts : (b : Actor) → owned_by p b fs ≡ owned_by p b kept.added + cond (same_actor a b) 1 0
    counts b = owned_more p b kept.added e ∙ ap (λ (o : Actor). owned_by p b kept.added + cond (same_actor o b) 1 0) its_owner

    counts_none : (b : Actor) → same_actor a b ≡ false → owned_by p b fs ≡ owned_by p b kept.added + 0
    counts_none b other = counts b ∙ ap (λ (t : Bool). owned_by p b kept.added + cond t 1 0) other

    notes_same : (place : ℕ) → slice_index_or new.idle place None ≡ slice_index_or old.idle place None
    notes_same place = ap (λ (notes : List (Option ℕ)). slice_index_or notes place None) made.idle

  -- a turn without an entry
  rested : (a : Actor) → IsIdle before new a → IsCarried p c new
  rested a idle = of_turn.rested began kept.added before new carried_before a idle

  -- the turn of a processor
  module _ (k : ℕ) (within : k < count) (own : ℕ) (at : slice_index_or old.asked k 0 ≡ slice_index_or entry.asked k 0 + own) (left : own < turns) where
    abbrev a : Actor
    a = turn_actor p.delivery own k

    own_small : slice_index_or old.asked k 0 < 2 ^ 64 - 1
    own_small = small k own at (omega (arith, left, kept.ready.few))

    room : k < length old.asked
    room = omega (arith, within, sound_at.noted.counts)

    its_rose : (kept.cpus k within).rose ≡ own
    its_rose = omega (arith, (kept.cpus k within).asked, at)

    was_own : KeepsShare entry old kept.added (Cpu k) own
    was_own = subst (λ (n : ℕ). KeepsShare entry old kept.added (Cpu k) n) its_rose (kept.cpus k within).own

    was_smi : KeepsShare entry old kept.added (Smi k) own
    was_smi = subst (λ (n : ℕ). KeepsShare entry old kept.added (Smi k) n) its_rose (kept.cpus k within).smi

    -- all turns counted, by place
    module _ (ns : new.asked ≡ counted count a old.asked) where
      placed : new.asked ≡ counted_at (Some k) old.asked
      placed = ns ∙ ap (λ (o : Option ℕ). counted_at o old.asked) (place_turn p.delivery count own k within)

      more_here : slice_index_or new.asked k 0 ≡ slice_index_or old.asked k 0 + 1
      more_here = ap (λ (xs : List ℕ). slice_index_or xs k 0) placed ∙ counted_here old.asked k room own_small

      rose_here : slice_index_or new.asked k 0 ≡ slice_index_or entry.asked k 0 + (own + 1)
      rose_here = omega (arith, more_here, at)

      same_there : (j : ℕ) → j ≢ k → slice_index_or new.asked j 0 ≡ slice_index_or old.asked j 0
      same_there j other = ap (λ (xs : List ℕ). slice_index_or xs j 0) placed ∙ counted_other old.asked k j other

      host_same : slice_index_or new.asked count 0 ≡ slice_index_or entry.asked count 0 + length marks
      host_same = same_there count (λ is. omega (arith, is, within)) ∙ kept.host

    kept_cpu_made : (e : Entry) → IsMade before new a e → IsKept entry turns hosts (record { world = new; marks = marks })
    kept_cpu_made e made = record {
      ready = kept.ready;
      state = kept.state;
      added = kept.added ++ e ∷ [];
      start = kept.start;
      places = kept.places;
      platform = same ∙ kept.platform;
      entries = entries_are a its e made;
      handed = handed_on a its e made;
      cpus = λ j inside. cpu j inside (cases_eq j k);
      host = host_same made.asked;
      marked = kept.marked;
      follows = follows_on a its e made;
      carried = carried_on a its e made;
      hosted = subst (λ (es : List Entry). IsHosted p es from (take (length marks) (host_actors hosts)) marks) (sym made.entries)
          (hosted_other p old.entries from _ marks kept.hosted e (ap is_host (its_owner a its e made) ∙ turn_no_host p.delivery own k));
    }
      where
        its : (j : ℕ) → a ≡ Smi j → is_late p.delivery ≡ true
        its j is = turn_proper p.delivery own k j is

        cpu : (j : ℕ) → j < count → (j ≡ k) ⊎ (j ≡ k → ⊥) → IsShared entry new turns (kept.added ++ e ∷ []) j
        cpu j inside (inl is) = subst (λ (i : ℕ). IsShared entry new turns (kept.added ++ e ∷ []) i) (sym is) (record {
          rose = own + 1;
          asked = rose_here made.asked;
          within = omega (arith, left);
          own = keeps_on entry old new kept.added (kept.added ++ e ∷ []) (Cpu k) own (own + 1) _ was_own (counts a its e made (Cpu k)) (cpu_next p.delivery own k) (λ place there. notes_same a its e made place);
          smi = keeps_on entry old new kept.added (kept.added ++ e ∷ []) (Smi k) own (own + 1) _ was_smi (counts a its e made (Smi k)) (smi_next p.delivery own k) (λ place there. notes_same a its e made place);
        })
        cpu j inside (inr other) = shared_same entry old new turns kept.added (kept.added ++ e ∷ []) j (kept.cpus j inside) (same_there made.asked j other)
            (counts_none a its e made (Cpu j) (other_cpu p.delivery own k j other)) (counts_none a its e made (Smi j) (other_smi p.delivery own k j other))
            (λ place there. notes_same a its e made place) (λ place there. notes_same a its e made place)

    kept_cpu_idle : IsIdle before new a → IsKept entry turns hosts (record { world = new; marks = marks })
    kept_cpu_idle idle = record {
      ready = kept.ready;
      state = kept.state;
      added = kept.added;
      start = kept.start;
      places = kept.places;
      platform = same ∙ kept.platform;
      entries = idle.entries ∙ kept.entries;
      handed = kept.handed;
      cpus = λ j inside. cpu j inside (cases_eq j k);
      host = host_same idle.asked;
      marked = kept.marked;
      follows = kept.follows;
      carried = rested a idle;
      hosted = subst (λ (es : List Entry). IsHosted p es from (take (length marks) (host_actors hosts)) marks) (sym idle.entries) kept.hosted;
    }
      where
        here : IsPlaced p.delivery count a
        here = idle_turn p.delivery count own k within

        notes_are : new.idle ≡ slice_set old.idle here.place (Some (length old.entries))
        notes_are =
            idle.idle c.state kept.carried.run ∙ ap (λ (h : Bool). noted h (idle_place_of p a) (length old.entries) old.idle) kept.handed
            ∙ ap (λ (o : Option ℕ). noted_at o (length old.entries) old.idle) here.is

        idle_since : IsIdleSince p new from a
        idle_since = record {
          place = here.place;
          after = length old.entries;
          is_place = here.is;
          idle = ap (λ (notes : List (Option ℕ)). slice_index_or notes here.place None) notes_are
              ∙ get_or-set_same old.idle here.place (Some (length old.entries)) None (omega (arith, here.within, sound_at.noted.places));
          since = since;
        }

        -- the note of another actor stays
        notes_other : (b : Actor) → same_actor a b ≡ false → (place : ℕ) → idle_place_of p b ≡ Some place → slice_index_or new.idle place None ≡ slice_index_or old.idle place None
        notes_other b other place there =
            ap (λ (notes : List (Option ℕ)). slice_index_or notes place None) notes_are
            ∙ get_or-set_other old.idle here.place place (Some (length old.entries)) None
            (λ is. apart (one_place (is_late p.delivery) count a b here.place here.is (there ∙ ap (λ (i : ℕ). Some i) is)))
          where
            apart : same_actor a b ≡ true → ⊥
            apart is = cc

        keeps : (b : Actor) → KeepsShare entry old kept.added b own → (t : Bool) → same_actor a b ≡ t → (t ≡ true → a ≡ b) → share p.delivery b (own + 1) ≡ share p.delivery b own + cond (same_actor a b) 1 0 → KeepsShare entry new kept.added b (own + 1)
        keeps b was true is one part = keeps_idle entry old new kept.added b own (own + 1) _ was part (subst (λ (d : Actor). IsIdleSince p new from d) (one refl) idle_since)
        keeps b was false is one part =
            keeps_on entry old new kept.added kept.added b own (own + 1) 0 was (nothing (owned_by p b kept.added)) (part ∙ ap (λ (t : Bool). share p.delivery b own + cond t 1 0) is) (notes_other b is)

        cpu : (j : ℕ) → j < count → (j ≡ k) ⊎ (j ≡ k → ⊥) → IsShared entry new turns kept.added j
        cpu j inside (inl is) = subst (λ (i : ℕ). IsShared entry new turns kept.added i) (sym is) (record {
          rose = own + 1;
          asked = rose_here idle.asked;
          within = omega (arith, left);
          own = keeps (Cpu k) was_own (same_actor a (Cpu k)) refl (same-is a (Cpu k)) (cpu_next p.delivery own k);
          smi = keeps (Smi k) was_smi (same_actor a (Smi k)) refl (same-is a (Smi k)) (smi_next p.delivery own k);
        })
        cpu j inside (inr other) = shared_same entry old new turns kept.added kept.added j (kept.cpus j inside) (same_there idle.asked j other)
            (nothing (owned_by p (Cpu j) kept.added)) (nothing (owned_by p (Smi j) kept.added))
            (notes_other (Cpu j) (other_cpu p.delivery own k j other)) (notes_other (Smi j) (other_smi p.delivery own k j other))

    turn_counts : (t : Turn) → IsTurned before new a t → new.asked ≡ counted count a old.asked
    turn_counts (Made e) turned = turned.asked
    turn_counts Idle turned = turned.asked

    -- the actor is chosen by the delivery of the world's own platform
    module _ (b : Actor) (q : Platform) (chosen : b ≡ turn_actor q.delivery own k) (its : q ≡ old.platform) (t : Turn) (turned : IsTurned old new b t) where
      turned_here : IsTurned before new a t
      turned_here =
          turned_at a t (subst (λ (c : Actor). IsTurned old new c t) (chosen ∙ ap (λ (r : Platform). turn_actor r.delivery own k) (its ∙ kept.platform)) turned)

      kept_by : (t : Turn) → IsTurned before new a t → IsKept entry turns hosts (record { world = new; marks = marks })
      kept_by (Made e) turned = kept_cpu_made e turned
      kept_by Idle turned = kept_cpu_idle turned

      pub kept_cpu : IsKept entry turns hosts (record { world = new; marks = marks })
      kept_cpu = kept_by t turned_here

      pub cpu_counted : (slice_index_or new.asked k 0 ≡ slice_index_or old.asked k 0 + 1) × ((j : ℕ) → j ≢ k → slice_index_or new.asked j 0 ≡ slice_index_or old.asked j 0)
      cpu_counted = let ns = turn_counts t turned_here in (more_here ns, same_there ns)

  -- the turn of the host
  module _ (a : Actor) (next : slice_get (host_actors hosts) (length marks) ≡ Some a) where
    own : is_host a ≡ true
    own = kept.ready.host (length marks) a next

    its : (j : ℕ) → a ≡ Smi j → is_late p.delivery ≡ true
    its j is = host_proper (is_late p.delivery) a own j is

    abbrev marks' : List ℕ
    marks' = marks ++ length old.entries ∷ []

    host_small : slice_index_or old.asked count 0 < 2 ^ 64 - 1
    host_small = small count (length marks) kept.host (omega (arith, kept.marked, kept.ready.fits))

    module _ (ns : new.asked ≡ counted count a old.asked) where
      host_placed : new.asked ≡ counted_at (Some count) old.asked
      host_placed = ns ∙ ap (λ (o : Option ℕ). counted_at o old.asked) (place_host count a own)

      host_more : slice_index_or new.asked count 0 ≡ slice_index_or entry.asked count 0 + length marks'
      host_more =
          let one = ap (λ (xs : List ℕ). slice_index_or xs count 0) host_placed ∙ counted_here old.asked count (omega (arith, sound_at.noted.counts)) host_small in
          omega (arith, one, kept.host, length-snoc marks (length old.entries))

      cpus_same : (j : ℕ) → j < count → slice_index_or new.asked j 0 ≡ slice_index_or old.asked j 0
      cpus_same j inside = ap (λ (xs : List ℕ). slice_index_or xs j 0) host_placed ∙ counted_other old.asked count j (λ is. omega (arith, is, inside))

    marked_more : length marks' ≤ length hosts
    marked_more = let there = get_within (host_actors hosts) (length marks) a next in omega (arith, there, length-map hosts (λ (h : HostEvent). h.actor), length-snoc marks (length old.entries))

    firsts : take (length marks') (host_actors hosts) ≡ take (length marks) (host_actors hosts) ++ a ∷ []
    firsts = ap (λ (n : ℕ). take n (host_actors hosts)) (length-snoc marks (length old.entries)) ∙ take_next (host_actors hosts) (length marks) a next

    kept_host_made : (e : Entry) → IsMade before new a e → IsKept entry turns hosts (record { world = new; marks = marks' })
    kept_host_made e made = record {
      ready = kept.ready;
      state = kept.state;
      added = kept.added ++ e ∷ [];
      start = kept.start;
      places = kept.places;
      platform = same ∙ kept.platform;
      entries = entries_are a its e made;
      handed = handed_on a its e made;
      cpus = λ j inside. shared_same entry old new turns kept.added (kept.added ++ e ∷ []) j (kept.cpus j inside) (cpus_same made.asked j inside)
          (counts_none a its e made (Cpu j) (no_cpu j a own)) (counts_none a its e made (Smi j) (no_smi j a own))
          (λ place there. notes_same a its e made place) (λ place there. notes_same a its e made place);
      host = host_more made.asked;
      marked = marked_more;
      follows = follows_on a its e made;
      carried = carried_on a its e made;
      hosted = subst (λ (bs : List Actor). IsHosted p new.entries from bs marks') (sym firsts)
          (subst (λ (es : List Entry). IsHosted p es from (take (length marks) (host_actors hosts) ++ a ∷ []) marks') (sym made.entries)
          (hosted_made p old.entries from _ marks kept.hosted a e own since (its_owner a its e made)));
    }

    kept_host_idle : IsIdle before new a → IsKept entry turns hosts (record { world = new; marks = marks' })
    kept_host_idle idle = record {
      ready = kept.ready;
      state = kept.state;
      added = kept.added;
      start = kept.start;
      places = kept.places;
      platform = same ∙ kept.platform;
      entries = idle.entries ∙ kept.entries;
      handed = kept.handed;
      cpus = λ j inside. shared_same entry old new turns kept.added kept.added j (kept.cpus j inside) (cpus_same idle.asked j inside)
          (nothing (owned_by p (Cpu j) kept.added)) (nothing (owned_by p (Smi j) kept.added)) (λ place there. notes_same_host place) (λ place there. notes_same_host place);
      host = host_more idle.asked;
      marked = marked_more;
      follows = kept.follows;
      carried = rested a idle;
      hosted = subst (λ (bs : List Actor). IsHosted p new.entries from bs marks') (sym firsts)
          (subst (λ (es : List Entry). IsHosted p es from (take (length marks) (host_actors hosts) ++ a ∷ []) marks') (sym idle.entries)
          (hosted_idle p old.entries from _ marks kept.hosted a since idle.none));
    }
      where
        notes_same_host : (place : ℕ) → slice_index_or new.idle place None ≡ slice_index_or old.idle place None
        notes_same_host place =
            ap (λ (notes : List (Option ℕ)). slice_index_or notes place None)
            (idle.idle c.state kept.carried.run ∙ ap (λ (h : Bool). noted h (idle_place_of p a) (length old.entries) old.idle) kept.handed
            ∙ ap (λ (o : Option ℕ). noted_at o (length old.entries) old.idle) (idle_host (is_late p.delivery) count a own))

    pub kept_host : (t : Turn) → IsTurned old new a t → IsKept entry turns hosts (record { world = new; marks = marks' })
    kept_host (Made e) turned = kept_host_made e (turned_at a (Made e) turned)
    kept_host Idle turned = kept_host_idle (turned_at a Idle turned)

    host_counts : (t : Turn) → IsTurned before new a t → new.asked ≡ counted count a old.asked
    host_counts (Made e) turned = turned.asked
    host_counts Idle turned = turned.asked

    pub host_counted : (t : Turn) → IsTurned old new a t → (j : ℕ) → j < count → slice_index_or new.asked j 0 ≡ slice_index_or old.asked j 0
    host_counted t turned j inside = cpus_same (host_counts t (turned_at a t turned)) j inside
