-- What threads make of a file, and how the call ends.
use Rattle.std.proofs.Common.{◌≡◌, ℕ, Bool, true, false, List, ◌++◌, length, map, Option, Some, None, IsSome, Ok, inl, inr, ◌⊎◌, refl, sym, ◌∙◌, ap, subst}
use Rattle.std.specs.Prelude.{All, slice_index_or}
use Rattle.std.proofs.lemmas.List.Folds.{list_all_at}
use Rattle.std.proofs.lemmas.Option.{same_Some}
use Rattle.std.specs.Io.KnownBytes.{Appends}
use Rattle.hp_model.specs.declared.accesses.Answer.{Answer}
use Rattle.hp_model.specs.declared.entries.Entry.{Entry}
use Rattle.hp_model.specs.declared.files.File.{File}
use Rattle.hp_model.specs.declared.files.HostEvent.{HostEvent}
use Rattle.hp_model.specs.declared.files.VoiceKind.{VoiceKind}
use Rattle.hp_model.specs.declared.outcomes.BootFact.{BootFact}
use Rattle.hp_model.specs.declared.platforms.Platform.{Platform}
use Rattle.hp_model.specs.Boot.{Stage, Boots, Refused, Handed, fact_of, is_booting, is_handed}
use Rattle.hp_model.specs.Following.{Carried, Follows, carried_all}
use Rattle.hp_model.specs.Hosting.{IsHosted, is_host}
use Rattle.hp_model.specs.Platform.{IsFit}
use Rattle.hp_model.specs.Runs.{run}
use Rattle.hp_model.specs.Safety.{IsSafe}
use Rattle.hp_model.specs.Schedule.{booted, boot_fact, scheduled}
use Rattle.hp_model.specs.State.{State}
use Rattle.hp_model.specs.Text.{head_text, lines_text, trace_text}
use Rattle.hp_model.specs.Voices.{Voice, Agree, told_of, voices_of}
use Rattle.hp_boot.specs.Ending.{StopsAt, hands_over}
use Rattle.hp_config.specs.Reading.{IsReadAs}
use Rattle.hp_config.specs.Rules.{hosts_are_hosts}
use Rattle.hp_config.specs.Sound.{IsSound}
use Rattle.hp_platform.specs.World.{World}
use Rattle.hp_threads.specs.Leaving.{IsLeft, added}
use Rattle.hp_threads.specs.Running.{host_actors}
use Rattle.hp_threads.specs.Sharing.{HadNone}
use Rattle.hp_threads.proofs.Voicing.{carried_of, follows_both, follows_fewer}
use Rattle.hp_top.specs.declared.statuses.Status.{Status}
use Rattle.hp_top.specs.declared.statuses.Status.TheVariants.{Done, BadWords, ReadFault, TooLong, NotToml, Rule, BootRefused, WriteFault, TraceRefused, NoMemory}
use Rattle.hp_top.specs.Answers.{IsDoneOrNoMemory, IsWritten}
use Rattle.hp_top.specs.Sent.{HoldsFront}
use Rattle.hp_top.specs.Threaded.{EndsThreaded, EndsThreadsRun, IsCutBoot, IsCutThreads, IsThreaded, IsThreadedCut, IsThreadedTrace, turns_each}
use Rattle.hp_top.specs.Turns.{boot_text, carried_start, with_voices}
use Rattle.hp_top.specs.Worlds.{IsBooted, IsStopped}
use Rattle.hp_top.proofs.Booting.{written_rest}
use Rattle.hp_top.proofs.Completing.{are_voices, completed, ends_read, run-front, safe_run}

-- each of a file's events is the host's
pub all_hosts : (hosts : List HostEvent) → hosts_are_hosts hosts ≡ true → All (λ h. is_host h.actor ≡ true) hosts
all_hosts hosts are k d within = by (is_host (slice_index_or hosts k d).actor) refl
  where
    by : (b : Bool) → is_host (slice_index_or hosts k d).actor ≡ b → is_host (slice_index_or hosts k d).actor ≡ true
    by true is = is
    by false is = absurd (let both : true ≡ false = sym are ∙ list_all_at (λ (h : HostEvent). is_host h.actor) hosts k d within is in cc)

-- where a boot stands that is over
handed_fact : (g : Stage) → is_handed g ≡ true → fact_of g ≡ None
handed_fact (Boots done supported) is = absurd cc
handed_fact (Refused fact) is = absurd cc
handed_fact (Handed requested) is = refl

over_handed : (g : Stage) → is_booting g ≡ false → None ≡ fact_of g → is_handed g ≡ true
over_handed (Boots done supported) over none = absurd cc
over_handed (Refused fact) over none = absurd cc
over_handed (Handed requested) over none = refl

module _ (p : Platform) (told : List (Option Voice)) (w : World) (b : IsBooted p told w) where
  abbrev left_at : State
  left_at = (booted p b.voices).scene.state

  its_state : (s : State) → run w.platform w.entries ≡ Some s → left_at ≡ s
  its_state s is = same_Some left_at s (sym b.state ∙ ap (λ (q : Platform). run q w.entries) (sym b.platform) ∙ is)

  found_at : run w.platform w.entries ≡ Some left_at
  found_at = ap (λ (q : Platform). run q w.entries) b.platform ∙ b.state

  -- no value refused it
  pub handed_on : is_booting left_at.stage ≡ false → ((s : State) → run w.platform w.entries ≡ Some s → None ≡ fact_of s.stage) → (s : State) → run w.platform w.entries ≡ Some s → is_handed s.stage ≡ true
  handed_on over none s is = ap (λ (t : State). is_handed t.stage) (sym (its_state s is)) ∙ over_handed left_at.stage over (none left_at found_at)

-- this value did
pub stopped_at : (f : File) (told : List (Option Voice)) (w : World) (b : IsBooted f.platform told w) (fact : BootFact) → ((s : State) → run w.platform w.entries ≡ Some s → Some fact ≡ fact_of s.stage) → IsStopped f told fact w.entries
unfolding boot_fact
stopped_at f told w b fact is = record {
  voices = b.voices;
  agree = b.agree;
  refused = sym (is (booted f.platform b.voices).scene.state (ap (λ (q : Platform). run q w.entries) b.platform ∙ b.state));
  entries = b.entries;
}

-- the turns of threads
module _ (f : File) (told : List (Option Voice)) (w r : World) (marks : List ℕ) (b : IsBooted f.platform told w) (handed : (s : State) → run w.platform w.entries ≡ Some s → is_handed s.stage ≡ true)
    (left : IsLeft w (turns_each f.platform) f.hosts r marks) where
  abbrev p : Platform
  p = f.platform

  abbrev entry : World
  entry = record w { platform = p }

  here : IsLeft entry (turns_each p) f.hosts r marks
  here = subst (λ (q : Platform). IsLeft (record w { platform = q }) (turns_each p) f.hosts r marks) b.platform left

  abbrev end : State
  end = (booted p b.voices).scene.state

  abbrev c : Carried
  c = carried_all p (carried_start p told) w.entries

  abbrev fs : List Entry
  fs = added entry r

  is_handed_over : is_handed end.stage ≡ true
  is_handed_over = handed end (ap (λ (q : Platform). run q w.entries) b.platform ∙ b.state)

  no_fact : boot_fact p b.voices ≡ None
  unfolding boot_fact
  no_fact = handed_fact end.stage is_handed_over

  same_state : end ≡ c.state
  same_state = same_Some end c.state (sym b.state ∙ b.carried.run)

  follows_here : Follows p (carried_of c.state w.voices c.last) fs
  follows_here =
      subst (λ (last : List Answer). Follows p (carried_of c.state w.voices last) fs) b.carried.last
      (subst (λ (s : State). Follows p (carried_of s w.voices w.last) fs) same_state (here.follows end b.state))

  many : length w.entries ≡ length (booted p b.voices).entries
  many = ap length b.entries

  pub threaded_by : IsThreaded f told r.entries
  threaded_by = record {
    voices = b.voices;
    agree = b.agree;
    boots = no_fact;
    handed = is_handed_over;
    added = fs;
    entries = here.entries ∙ ap (λ (es : List Entry). es ++ fs) b.entries;
    follows = subst (λ (es : List Entry). Follows p (carried_start p told) es) (sym here.entries)
        (follows_both p (carried_start p told) w.entries fs b.follows (follows_fewer p c.state c.voices w.voices c.last fs b.carried.voices follows_here));
    marks = marks;
    hosted = subst (λ (n : ℕ). IsHosted p r.entries n (host_actors f.hosts) marks) many here.hosted;
    most = here.most;
    fewer = λ a has less. subst (λ (n : ℕ). HadNone p r.entries n a) many (here.fewer a has less);
  }

-- what is made of the rest of a file is made of the file
module _ (kinds : List VoiceKind) (f : File) (told : List (Option Voice)) where
  threaded_rest : (es : List Entry) → IsThreaded f told es → IsThreaded (with_voices kinds f) told es
  threaded_rest es t = record {
    voices = t.voices;
    agree = t.agree;
    boots = t.boots;
    handed = t.handed;
    added = t.added;
    entries = t.entries;
    follows = t.follows;
    marks = t.marks;
    hosted = t.hosted;
    most = t.most;
    fewer = t.fewer;
  }

  boot_rest : (vs : List Voice) → boot_text f vs ≡ boot_text (with_voices kinds f) vs
  unfolding boot_text
  boot_rest vs = refl

  cut_rest : (a b : Option (List ℕ)) → IsThreadedCut f told a b → IsThreadedCut (with_voices kinds f) told a b
  cut_rest a b (inl cut) = inl (record { entries = cut.entries; is_run = cut.is_run; threaded = threaded_rest cut.entries cut.threaded; front = cut.front })
  cut_rest a b (inr cut) =
      inr (record { voices = cut.voices; agree = cut.agree; fact = cut.fact; refused = cut.refused; front = subst (HoldsFront a b) (boot_rest cut.voices) cut.front })

  pub ends_rest : (a b : Option (List ℕ)) (status : Status) → EndsThreaded f told a b status → EndsThreaded (with_voices kinds f) told a b status
  ends_rest a b Done all = record { entries = all.entries; is_run = all.is_run; threaded = threaded_rest all.entries all.threaded; appended = all.appended }
  ends_rest a b BadWords ends = ends
  ends_rest a b ReadFault ends = ends
  ends_rest a b TooLong ends = ends
  ends_rest a b NotToml ends = ends
  ends_rest a b (Rule rule) ends = ends
  ends_rest a b (BootRefused fact) all = written_rest kinds f told (Some fact) a b all
  ends_rest a b WriteFault cut = cut_rest a b cut
  ends_rest a b (TraceRefused line why) ends = ends
  ends_rest a b NoMemory (inl kept) = inl kept
  ends_rest a b NoMemory (inr cut) = inr (cut_rest a b cut)

-- what was sent of a boot that is refused
module _ (f : File) (told : List (Option Voice)) (fact : BootFact) (es : List Entry) (a b : Option (List ℕ)) (stop : IsStopped f told fact es) where
  its_text : head_text f.platform ++ lines_text es ≡ boot_text f stop.voices
  unfolding boot_text
  its_text = ap (λ (xs : List Entry). head_text f.platform ++ lines_text xs) stop.entries

  pub boot_written : Appends a b (head_text f.platform ++ lines_text es) → IsWritten f told (Some fact) a b
  boot_written all = record { voices = stop.voices; agree = stop.agree; fact = stop.refused; appended = subst (Appends a b) its_text all }

  pub boot_front : HoldsFront a b (head_text f.platform ++ lines_text es) → IsThreadedCut f told a b
  boot_front part = inr (record { voices = stop.voices; agree = stop.agree; fact = fact; refused = stop.refused; front = subst (HoldsFront a b) its_text part })

-- and of a run
module _ (f : File) (told : List (Option Voice)) (es : List Entry) (a b : Option (List ℕ)) (ran : IsSome (run f.platform es)) (made : IsThreaded f told es) where
  pub run_written : Appends a b (trace_text f.platform es) → IsThreadedTrace f told a b
  run_written all = record { entries = es; is_run = ran; threaded = made; appended = all }

  pub run_front : HoldsFront a b (trace_text f.platform es) → IsThreadedCut f told a b
  run_front part = inl (record { entries = es; is_run = ran; threaded = made; front = part })

-- the entries that are written are a run, and safe
module _ (whole : (f : File) (vs : List Voice) → IsSome (run f.platform (scheduled f vs))) (boot : (p : Platform) (vs : List Voice) → IsSome (run p (booted p vs).entries))
    (safety : (p : Platform) (es : List Entry) (s : State) → IsFit p → run p es ≡ Some s → IsSafe p es)
    (stops : (p : Platform) (vs : List Voice) (fact : BootFact) → boot_fact p vs ≡ Some fact → StopsAt fact (booted p vs).entries)
    (alone : (f : File) (all vs : List Voice) → Agree (told_of f (map (λ v. Some v) all)) vs → vs ≡ voices_of f all)
    (bytes : List ℕ) (handed : List (Option Voice)) (old new : Option (List ℕ)) (f : File) (read : IsReadAs bytes (Ok f)) (sound : IsSound f) where
  safe : (es : List Entry) → IsSome (run f.platform es) → IsSafe f.platform es
  safe es some = safe_run whole boot safety stops alone f.platform es sound.fit some

  cut_read : IsThreadedCut f (told_of f handed) old new → IsCutThreads bytes handed old new ⊎ IsCutBoot bytes handed old new
  cut_read (inl cut) = inl (record {
    file = f;
    read = read;
    entries = cut.entries;
    is_run = cut.is_run;
    safe = λ front rest is. safe front (run-front f.platform cut.entries front rest is cut.is_run);
    threaded = cut.threaded;
    front = cut.front;
  })
  cut_read (inr cut) = inr (record {
    file = f;
    read = read;
    voices = cut.voices;
    are_voices = are_voices whole boot safety stops alone f handed cut.voices cut.agree;
    fact = cut.fact;
    refused = cut.refused;
    front = cut.front;
    is_run = boot f.platform cut.voices;
    safe = λ front rest is. safe front (run-front f.platform (booted f.platform cut.voices).entries front rest is (boot f.platform cut.voices));
  })

  pub threads_read : (status : Status) → EndsThreaded f (told_of f handed) old new status → EndsThreadsRun bytes handed old new status
  threads_read Done all = record {
    file = f;
    read = read;
    entries = all.entries;
    is_run = all.is_run;
    safe = safe all.entries all.is_run;
    threaded = all.threaded;
    appended = all.appended;
  }
  threads_read BadWords ends = ends
  threads_read ReadFault ends = ends
  threads_read TooLong ends = ends
  threads_read NotToml ends = absurd ends
  threads_read (Rule rule) ends = absurd ends
  threads_read (BootRefused fact) all = ends_read whole boot safety stops alone bytes handed old new f (BootRefused fact) read sound all
  threads_read WriteFault cut = cut_read cut
  threads_read (TraceRefused line why) ends = ends
  threads_read NoMemory (inl kept) = inl kept
  threads_read NoMemory (inr cut) = inr (cut_read cut)

-- a file whose machine is handed over is run to its end
module _ (sound : (bytes : List ℕ) (f : File) → IsReadAs bytes (Ok f) → IsSound f) (boots : (p : Platform) (vs : List Voice) → IsFit p → hands_over p ≡ true → boot_fact p vs ≡ None)
    (handed : List (Option Voice)) where
  pub threads_completed : (bytes : List ℕ) (old new : Option (List ℕ)) (status : Status) (f : File) → EndsThreadsRun bytes handed old new status → (status ≡ WriteFault → ⊥) →
      IsReadAs bytes (Ok f) → hands_over f.platform ≡ true → IsDoneOrNoMemory status
  threads_completed bytes old new Done f ends written read up = tt
  threads_completed bytes old new BadWords f ends written read up = ends
  threads_completed bytes old new ReadFault f ends written read up = ends
  threads_completed bytes old new TooLong f ends written read up = ends
  threads_completed bytes old new NotToml f ends written read up = completed sound boots handed bytes old new NotToml f ends written read up
  threads_completed bytes old new (Rule rule) f ends written read up = completed sound boots handed bytes old new (Rule rule) f ends written read up
  threads_completed bytes old new (BootRefused fact) f ends written read up = completed sound boots handed bytes old new (BootRefused fact) f ends written read up
  threads_completed bytes old new WriteFault f ends written read up = written refl
  threads_completed bytes old new (TraceRefused line why) f ends written read up = ends
  threads_completed bytes old new NoMemory f ends written read up = tt
