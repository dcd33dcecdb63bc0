-- The boot, and what follows it: of the voices that a part after it agrees with, those of the whole run.
use Rattle.std.proofs.Common.{◌≡◌, ℕ, ◌+◌, List, [], ◌∷◌, length, map, Option, Some, None, refl, sym, ◌∙◌, ap, subst}
use Rattle.std.specs.Io.KnownBytes.{Appends}
use Rattle.hp_model.specs.declared.platforms.Platform.{Platform}
use Rattle.hp_model.specs.declared.accesses.Answer.{Answer}
use Rattle.hp_model.specs.declared.accesses.Answer.TheVariants.{Quiet}
use Rattle.hp_model.specs.declared.entries.Entry.{Entry}
use Rattle.hp_model.specs.declared.files.File.{File}
use Rattle.hp_model.specs.declared.files.VoiceKind.{VoiceKind}
use Rattle.hp_model.specs.declared.outcomes.BootFact.{BootFact}
use Rattle.hp_model.specs.Boot.{fact_of}
use Rattle.hp_model.specs.Following.{Carried}
use Rattle.hp_model.specs.Schedule.{Scene, Made, act_all, turns_from, scene_start, boot_turns, booted, boot_fact}
use Rattle.hp_model.specs.State.{State, start}
use Rattle.hp_model.specs.Text.{lines_text, end_text, head_text}
use Rattle.hp_model.specs.Voices.{Voice, Agree}
use Rattle.hp_model.proofs.Agreeing.{some_voices, some_agree}
use Rattle.hp_platform.specs.Carrying.{AgreesWith}
use Rattle.hp_platform.specs.Live.{Live}
use Rattle.hp_top.specs.Answers.{IsWritten, IsCut}
use Rattle.hp_top.specs.Sent.{HoldsFront}
use Rattle.hp_top.specs.Doing.{Does, HasSent, Sends}
use Rattle.hp_top.specs.Turns.{Writes, Cuts, lines_of, output, boot_left, turns_text, carried_start, with_voices}
use Rattle.hp_top.specs.Lives.{StandsFor}
use Rattle.hp_top.proofs.Completing.{written}
use Rattle.hp_top.proofs.Schedule.{after_boot, text_rest, output_rest, head_front, boot_front, refused_sent, turns_front_sent, turns_sent, turns_lines_front, end_front, end_sent}
use Rattle.hp_top.proofs.Sends.{front_none}
use Rattle.hp_top.proofs.Turning.{some_scene, scene_agrees}

-- the lines of a part, and then the end line
module _ (p : Platform) (c : Carried) (part : Scene → Made) (booted : ℕ) (a b : Option (List ℕ)) where
  pub part_cuts : Cuts c (lines_of part) a b → Cuts c (λ w. turns_text booted (part w)) a b
  part_cuts cut = record { scene = cut.scene; agrees = cut.agrees; front = turns_lines_front (part cut.scene) booted a b cut.front }

  module _ (live : Live) (made : ℕ) (d : Option (List ℕ)) (sends : Sends p live c part made a b) where
    pub end_writes : Appends b d (end_text (booted + made)) → Writes c (λ w. turns_text booted (part w)) a d
    end_writes end =
        let m = sends.leads.made (some_scene sends.left) (scene_agrees sends.left) in
        record {
          scene = m.scene;
          agrees = m.agrees;
          appended = end_sent (part m.scene) booted a b made d (ap length m.entries ∙ sends.so.count) (subst (λ (es : List Entry). Appends a b (lines_text es)) (sym m.entries) sends.so.lines) end;
        }

    pub end_cuts : HoldsFront b d (end_text (booted + made)) → Cuts c (λ w. turns_text booted (part w)) a d
    end_cuts cut =
        let m = sends.leads.made (some_scene sends.left) (scene_agrees sends.left) in
        record {
          scene = m.scene;
          agrees = m.agrees;
          front = end_front (part m.scene) booted a b made d (ap length m.entries ∙ sends.so.count) (subst (λ (es : List Entry). Appends a b (lines_text es)) (sym m.entries) sends.so.lines) cut;
        }

-- a scene that agrees with what is carried at the start is the first of a run
quiet_is : (told : List (Option Voice)) (vs : List Voice) → Agree told vs → map {A = Option Voice} {B = Answer} (λ o. Quiet) told ≡ map (λ v. Quiet) vs
quiet_is [] [] agree = refl
quiet_is [] (v ∷ vs) agree = absurd agree
quiet_is (o ∷ told) [] agree = absurd agree
quiet_is (o ∷ told) (v ∷ vs) agree = ap (λ (as' : List Answer). Quiet ∷ as') (quiet_is told vs agree.1)

abbrev scene_of : State → List Voice → List Answer → Scene
scene_of s vs last = record { state = s; voices = vs; last = last }

start_is : (p : Platform) (told : List (Option Voice)) (w : Scene) → AgreesWith (carried_start p told) w → w ≡ scene_start p w.voices
start_is p told w agrees = ap (λ (s : State). scene_of s w.voices w.last) agrees.state ∙ ap (scene_of (start p) w.voices) (agrees.last ∙ quiet_is told w.voices agrees.voices)

-- voices by which the boot makes these entries, and leaves this scene
pub record BootsTo (p : Platform) (told : List (Option Voice)) (es : List Entry) (left : Scene) : Type 0 where
  pub voices : List Voice
  pub agree : Agree told voices
  pub entries : (booted p voices).entries ≡ es
  pub scene : (booted p voices).scene ≡ left

module _ (p : Platform) (told : List (Option Voice)) (n : ℕ) (is : n ≡ boot_turns p) where
  pub boot_is : (w : Scene) → AgreesWith (carried_start p told) w → booted p w.voices ≡ act_all p w (boot_left n)
  unfolding booted boot_left
  boot_is w agrees =
      ap (λ (m : ℕ). act_all p (scene_start p w.voices) (boot_left m)) (sym is)
      ∙ ap (λ (v : Scene). act_all p v (boot_left n)) (sym (start_is p told w agrees))

  pub boots_to : (seen : Live) (So : List Entry → Type 0) (boot : Does p seen (carried_start p told) (λ w. act_all p w (boot_left n)) So) (scene : Scene) → AgreesWith boot.left scene →
      BootsTo p told boot.entries scene
  boots_to seen So boot scene agrees =
      let m = boot.leads.made scene agrees in
      record {
        voices = m.scene.voices;
        agree = m.agrees.voices;
        entries = ap (λ (x : Made). x.entries) (boot_is m.scene m.agrees) ∙ m.entries;
        scene = ap (λ (x : Made). x.scene) (boot_is m.scene m.agrees) ∙ m.leaves;
      }

-- the scene after it shows what refused it
fact_is : (p : Platform) (told : List (Option Voice)) (seen : Live) (left : Carried) (scene : Scene) (es : List Entry) (o : Option BootFact) → StandsFor p seen left → AgreesWith left scene →
    o ≡ fact_of seen.state.stage → (boots : BootsTo p told es scene) → o ≡ boot_fact p boots.voices
unfolding boot_fact
fact_is p told seen left scene es o shows agrees found boots =
    found ∙ ap (λ (s : State). fact_of s.stage) (shows.carries.state ∙ sym agrees.state) ∙ ap (λ (w : Scene). fact_of w.state.stage) (sym boots.scene)

-- nothing was written
pub none_written : (f : File) (told : List (Option Voice)) (a : Option (List ℕ)) → IsCut f told a a
none_written f told a = record { voices = some_voices told; agree = some_agree told; front = front_none a (output f (some_voices told)) }

-- what is written for the rest of a file is written for the file
module _ (kinds : List VoiceKind) (f : File) (told : List (Option Voice)) where
  pub written_rest : (o : Option BootFact) (a b : Option (List ℕ)) → IsWritten f told o a b → IsWritten (with_voices kinds f) told o a b
  written_rest o a b all = record { voices = all.voices; agree = all.agree; fact = all.fact; appended = subst (Appends a b) (text_rest kinds f all.voices o) all.appended }

  pub cut_rest : (a b : Option (List ℕ)) → IsCut f told a b → IsCut (with_voices kinds f) told a b
  cut_rest a b cut = record { voices = cut.voices; agree = cut.agree; front = subst (HoldsFront a b) (output_rest kinds f cut.voices) cut.front }

module _ (f : File) (told : List (Option Voice)) (a b : Option (List ℕ)) where
  -- the header was sent in part
  pub head_cuts : HoldsFront a b (head_text f.platform) → IsCut f told a b
  head_cuts cut = record { voices = some_voices told; agree = some_agree told; front = head_front f (some_voices told) a b cut }

  module _ (c : Option (List ℕ)) (head : Appends a b (head_text f.platform)) (n : ℕ) (is : n ≡ boot_turns f.platform) where
    -- the boot's lines were
    pub boot_cuts : Cuts (carried_start f.platform told) (lines_of (λ w. act_all f.platform w (boot_left n))) b c → IsCut f told a c
    boot_cuts cut = record {
      voices = cut.scene.voices;
      agree = cut.agrees.voices;
      front = boot_front f cut.scene.voices a b c head (subst (λ (m : Made). HoldsFront b c (lines_text m.entries)) (sym (boot_is f.platform told n is cut.scene cut.agrees)) cut.front);
    }

    -- all of them were, and the state after them shows what refused it, or nothing
    module _ (seen : Live) (made : ℕ) (boot : Sends f.platform seen (carried_start f.platform told) (λ w. act_all f.platform w (boot_left n)) made b c)
        (o : Option BootFact) (found : o ≡ fact_of seen.state.stage) where
      boots : (scene : Scene) → AgreesWith boot.left scene → BootsTo f.platform told boot.entries scene
      boots scene agrees = boots_to f.platform told n is seen (HasSent made b c) boot scene agrees

      abbrev Fact : List Voice → Type 0
      Fact vs = o ≡ boot_fact f.platform vs

      fact : (scene : Scene) (agrees : AgreesWith boot.left scene) → Fact (boots scene agrees).voices
      fact scene agrees = fact_is f.platform told seen boot.left scene boot.entries o boot.shows agrees found (boots scene agrees)

      lines : (scene : Scene) (agrees : AgreesWith boot.left scene) → Appends b c (lines_text (booted f.platform (boots scene agrees).voices).entries)
      lines scene agrees = subst (λ (es : List Entry). Appends b c (lines_text es)) (sym (boots scene agrees).entries) boot.so.lines

      -- what follows them
      rest_is : (scene : Scene) (agrees : AgreesWith boot.left scene) → turns_text made (turns_from f f.platform.turns 0 scene) ≡ after_boot None f (boots scene agrees).voices
      rest_is scene agrees =
          ap (λ (m : ℕ). turns_text m (turns_from f f.platform.turns 0 scene)) (sym boot.so.count ∙ ap length (sym (boots scene agrees).entries))
          ∙ ap (λ (w : Scene). turns_text (length (booted f.platform (boots scene agrees).voices).entries) (turns_from f f.platform.turns 0 w)) (sym (boots scene agrees).scene)

      whole : (scene : Scene) (agrees : AgreesWith boot.left scene) (d : Option (List ℕ)) → Appends a d (output f (boots scene agrees).voices) → IsWritten f told o a d
      whole scene agrees d all = written f told (boots scene agrees).voices (boots scene agrees).agree o a d (fact scene agrees) all

      pub refused_writes : (value : BootFact) → o ≡ Some value → IsWritten f told o a c
      refused_writes value refused =
          let scene = some_scene boot.left in
          let agrees = scene_agrees boot.left in
          whole scene agrees c (refused_sent f (boots scene agrees).voices a b c head (lines scene agrees) value (sym refused ∙ fact scene agrees))

      module _ (handed : o ≡ None) (d : Option (List ℕ)) where
        pub turns_write : Writes boot.left (λ w. turns_text made (turns_from f f.platform.turns 0 w)) c d → IsWritten f told o a d
        turns_write all =
            whole all.scene all.agrees d
            (turns_sent f (boots all.scene all.agrees).voices a b c head (lines all.scene all.agrees) d _ (sym handed ∙ fact all.scene all.agrees) (rest_is all.scene all.agrees) all.appended)

        pub turns_cut : Cuts boot.left (λ w. turns_text made (turns_from f f.platform.turns 0 w)) c d → IsCut f told a d
        turns_cut cut = record {
          voices = (boots cut.scene cut.agrees).voices;
          agree = (boots cut.scene cut.agrees).agree;
          front = turns_front_sent f (boots cut.scene cut.agrees).voices a b c head (lines cut.scene cut.agrees) d _ (sym handed ∙ fact cut.scene cut.agrees) (rest_is cut.scene cut.agrees) cut.front;
        }
