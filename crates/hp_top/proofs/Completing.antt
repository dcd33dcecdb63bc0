-- How the run of a file that was read ends; where its machine is handed over, to its end.
use Rattle.std.proofs.Common.{◌≡◌, ℕ, true, List, [], ◌∷◌, ◌++◌, map, Option, Some, None, IsSome, Ok, option_map, option_and_then, inr, refl, sym, ◌∙◌, ap, subst}
use Rattle.std.proofs.lemmas.Option.{same_Some}
use Rattle.hp_model.specs.declared.files.File.{File}
use Rattle.hp_model.specs.declared.outcomes.BootFact.{BootFact}
use Rattle.hp_model.specs.Platform.{IsFit}
use Rattle.hp_model.specs.declared.platforms.Platform.{Platform}
use Rattle.hp_model.specs.declared.entries.Entry.{Entry}
use Rattle.hp_model.specs.Runs.{run, run_from, run_on}
use Rattle.hp_model.specs.Safety.{IsSafe}
use Rattle.hp_model.specs.Schedule.{booted, boot_fact, scheduled}
use Rattle.hp_model.specs.State.{State, start}
use Rattle.hp_model.specs.Voices.{Voice, Agree, told_of, voices_of}
use Rattle.hp_config.specs.Reading.{Reading, good, broken, file_of, text_reading, IsReadAs}
use Rattle.hp_config.specs.Sound.{IsSound}
use Rattle.hp_boot.specs.Ending.{StopsAt, hands_over}
use Rattle.hp_top.specs.declared.statuses.Status.{Status}
use Rattle.hp_top.specs.declared.statuses.Status.TheVariants.{Done, BadWords, ReadFault, TooLong, NotToml, Rule, BootRefused, WriteFault, TraceRefused, NoMemory}
use Rattle.hp_top.specs.Answers.{AreVoices, EndsFile, EndsRun, IsCut, IsCutRun, IsWritten, IsDoneOrNoMemory}
use Rattle.hp_top.specs.Turns.{text_by, output, entries_by, spelled}
use Rattle.std.specs.Io.KnownBytes.{Appends}

-- a text is one file
file_in : File → Reading → File
file_in other (good f) = f
file_in other (broken rule) = other

same_file : (bytes : List ℕ) (f g : File) → IsReadAs bytes (Ok f) → IsReadAs bytes (Ok g) → g ≡ f
unfolding file_in
same_file bytes f g first second = ap (file_in f) (same_Some (good g) (good f) (sym second.1 ∙ first.1))

module _ (sound : (bytes : List ℕ) (f : File) → IsReadAs bytes (Ok f) → IsSound f) (boots : (p : Platform) (vs : List Voice) → IsFit p → hands_over p ≡ true → boot_fact p vs ≡ None)
    (handed : List (Option Voice)) where
  pub completed : (bytes : List ℕ) (old new : Option (List ℕ)) (status : Status) (f : File) → EndsRun bytes handed old new status → (status ≡ WriteFault → ⊥) →
      IsReadAs bytes (Ok f) → hands_over f.platform ≡ true → IsDoneOrNoMemory status
  completed bytes old new Done f ends written read up = tt
  completed bytes old new BadWords f ends written read up = ends
  completed bytes old new ReadFault f ends written read up = ends
  completed bytes old new TooLong f ends written read up = ends
  completed bytes old new NotToml f ends written read up =
      absurd (let none : text_reading bytes ≡ None = ap (option_map file_of) (ends.cause read.0) in let both : None ≡ Some (good f) = sym none ∙ read.1 in cc)
  completed bytes old new (Rule rule) f ends written read up =
      absurd (let both : Some (broken rule.0) ≡ Some (good f) = sym ends.cause.1 ∙ read.1 in cc)
  completed bytes old new (BootRefused fact) f ends written read up =
      absurd (let both : Some fact ≡ None = sym ends.refused ∙ ap (λ (g : File). boot_fact g.platform ends.voices) (same_file bytes f ends.file read ends.read)
      ∙ boots f.platform ends.voices (sound bytes f read).fit up in cc)
  completed bytes old new WriteFault f ends written read up = written refl
  completed bytes old new (TraceRefused line why) f ends written read up = ends
  completed bytes old new NoMemory f ends written read up = tt

-- a front of a run is one
run_from-front : (p : Platform) (s : State) (front rest : List Entry) → IsSome (run_from p s (front ++ rest)) → IsSome (run_from p s front)
unfolding run_from
run_from-front p s [] rest some = refl
run_from-front p s (e ∷ front) rest some = by (λ t. run_from-front p t front rest) (run_on p s e) some
  where
    by : ((t : State) → IsSome (run_from p t (front ++ rest)) → IsSome (run_from p t front)) → (o : Option State) →
        IsSome (option_and_then (λ t. run_from p t (front ++ rest)) o) → IsSome (option_and_then (λ t. run_from p t front) o)
    by further None some = cc
    by further (Some t) some = further t some

pub run-front : (p : Platform) (es front rest : List Entry) → es ≡ front ++ rest → IsSome (run p es) → IsSome (run p front)
unfolding run
run-front p es front rest is some = run_from-front p (start p) front rest (subst (λ (fs : List Entry). IsSome (run_from p (start p) fs)) is some)

-- the entries that are written are a run, and safe
module _ (whole : (f : File) (vs : List Voice) → IsSome (run f.platform (scheduled f vs))) (boot : (p : Platform) (vs : List Voice) → IsSome (run p (booted p vs).entries))
    (safety : (p : Platform) (es : List Entry) (s : State) → IsFit p → run p es ≡ Some s → IsSafe p es)
    (stops : (p : Platform) (vs : List Voice) (fact : BootFact) → boot_fact p vs ≡ Some fact → StopsAt fact (booted p vs).entries)
    (alone : (f : File) (all vs : List Voice) → Agree (told_of f (map (λ v. Some v) all)) vs → vs ≡ voices_of f all) where
  pub safe_run : (p : Platform) (es : List Entry) → IsFit p → IsSome (run p es) → IsSafe p es
  safe_run p es fit some = by (run p es) refl some
    where
      by : (o : Option State) → run p es ≡ o → IsSome o → IsSafe p es
      by None e none = cc
      by (Some s) e found = safety p es s fit e

  spelled_run : (f : File) (vs : List Voice) → IsSome (run f.platform (spelled f vs))
  unfolding spelled
  spelled_run f vs = by (boot_fact f.platform vs)
    where
      by : (o : Option BootFact) → IsSome (run f.platform (entries_by o f vs))
      by None = whole f vs
      by (Some fact) = boot f.platform vs

  pub are_voices : (f : File) (handed : List (Option Voice)) (vs : List Voice) → Agree (told_of f handed) vs → AreVoices f handed vs
  are_voices f handed vs agree = record { agree = agree; exact = λ all told. alone f all vs (subst (λ (os : List (Option Voice)). Agree (told_of f os) vs) told agree) }

  cut_run : (bytes : List ℕ) (handed : List (Option Voice)) (old new : Option (List ℕ)) (f : File) → IsReadAs bytes (Ok f) → IsSound f → IsCut f (told_of f handed) old new → IsCutRun bytes handed old new
  cut_run bytes handed old new f read sound cut = record {
    file = f;
    read = read;
    voices = cut.voices;
    are_voices = are_voices f handed cut.voices cut.agree;
    front = cut.front;
    is_run = spelled_run f cut.voices;
    safe = λ written rest is. safe_run f.platform written sound.fit (run-front f.platform (spelled f cut.voices) written rest is (spelled_run f cut.voices));
  }

  pub ends_read : (bytes : List ℕ) (handed : List (Option Voice)) (old new : Option (List ℕ)) (f : File) (status : Status) → IsReadAs bytes (Ok f) → IsSound f →
      EndsFile f (told_of f handed) old new status → EndsRun bytes handed old new status
  ends_read bytes handed old new f Done read sound written = record {
    file = f;
    read = read;
    voices = written.voices;
    are_voices = are_voices f handed written.voices written.agree;
    boots = written.fact;
    appended = written.appended;
    is_run = whole f written.voices;
    safe = safe_run f.platform (scheduled f written.voices) sound.fit (whole f written.voices);
  }
  ends_read bytes handed old new f BadWords read sound written = written
  ends_read bytes handed old new f ReadFault read sound written = written
  ends_read bytes handed old new f TooLong read sound written = written
  ends_read bytes handed old new f NotToml read sound written = absurd written
  ends_read bytes handed old new f (Rule rule) read sound written = absurd written
  ends_read bytes handed old new f (BootRefused fact) read sound written = record {
    file = f;
    read = read;
    voices = written.voices;
    are_voices = are_voices f handed written.voices written.agree;
    refused = written.fact;
    appended = written.appended;
    stops = stops f.platform written.voices fact written.fact;
    is_run = boot f.platform written.voices;
    safe = safe_run f.platform (booted f.platform written.voices).entries sound.fit (boot f.platform written.voices);
  }
  ends_read bytes handed old new f WriteFault read sound cut = cut_run bytes handed old new f read sound cut
  ends_read bytes handed old new f (TraceRefused line why) read sound written = written
  ends_read bytes handed old new f NoMemory read sound cut = inr (cut_run bytes handed old new f read sound cut)

-- what was written is what the boot's fact says
pub written : (f : File) (told : List (Option Voice)) (vs : List Voice) → Agree told vs → (o : Option BootFact) (a b : Option (List ℕ)) → o ≡ boot_fact f.platform vs → Appends a b (output f vs) → IsWritten f told o a b
unfolding output
written f told vs agree o a b is all = record { voices = vs; agree = agree; fact = sym is; appended = subst (λ (x : Option BootFact). Appends a b (text_by x f vs)) (sym is) all }
