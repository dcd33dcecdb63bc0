-- A scheduled run, turn after turn, and the parts of its text.
use Rattle.std.proofs.Common.{◌≡◌, ℕ, zero, suc, ◌+◌, List, [], ◌++◌, length, Option, Some, None, refl, sym, ◌∙◌, ap, subst, append_assoc, length-append}
use Rattle.std.proofs.lemmas.List.{append-nil}
use Rattle.std.specs.Io.KnownBytes.{Appends}
use Rattle.hp_model.specs.declared.entries.Entry.{Entry}
use Rattle.hp_model.specs.declared.files.File.{File}
use Rattle.hp_model.specs.declared.files.VoiceKind.{VoiceKind}
use Rattle.hp_model.specs.declared.outcomes.BootFact.{BootFact}
use Rattle.hp_model.specs.Schedule.{Scene, Made, both_make, act_all, actors_of, turns_from, booted, boot_fact, scheduled}
use Rattle.hp_model.specs.Voices.{Voice}
use Rattle.hp_model.specs.Text.{lines_text, end_text, head_text, trace_text}
use Rattle.hp_top.proofs.Sends.{sent_none, sent_more, sent_all, front_part}
use Rattle.hp_top.proofs.Turning.{lines_text-append}
use Rattle.hp_top.specs.Sent.{IsSent, HoldsFront}
use Rattle.hp_top.specs.Turns.{run_text, boot_text, text_by, output, turns_text, with_voices}

-- no turn asks for the file's own voices
turns_rest : (kinds : List VoiceKind) (f : File) (n t : ℕ) (w : Scene) → turns_from (with_voices kinds f) n t w ≡ turns_from f n t w
unfolding turns_from actors_of
turns_rest kinds f zero t w = refl
turns_rest kinds f (suc n) t w =
    let made = act_all f.platform w (actors_of f t) in ap (both_make made) (turns_rest kinds f n (t + 1) made.scene)

-- what is written: the header, the lines of the boot, and what follows them
abbrev pub after_boot : Option BootFact → File → List Voice → List ℕ
after_boot None f vs = turns_text (length (booted f.platform vs).entries) (turns_from f f.platform.turns 0 (booted f.platform vs).scene)
after_boot (Some fact) f vs = []

run_parts : (f : File) (vs : List Voice) → run_text f vs ≡ head_text f.platform ++ (lines_text (booted f.platform vs).entries ++ after_boot None f vs)
unfolding run_text scheduled
run_parts f vs =
    ap (λ (t : List ℕ). head_text f.platform ++ t)
    (ap (λ (t : List ℕ). t ++ end_text (length (es ++ gs))) (lines_text-append es gs)
    ∙ append_assoc (lines_text es) (lines_text gs) (end_text (length (es ++ gs)))
    ∙ ap (λ (n : ℕ). lines_text es ++ (lines_text gs ++ end_text n)) (length-append es gs))
  where
    es : List Entry
    es = (booted f.platform vs).entries

    gs : List Entry
    gs = (turns_from f f.platform.turns 0 (booted f.platform vs).scene).entries

boot_parts : (f : File) (vs : List Voice) → boot_text f vs ≡ head_text f.platform ++ (lines_text (booted f.platform vs).entries ++ [])
unfolding boot_text
boot_parts f vs = ap (λ (t : List ℕ). head_text f.platform ++ t) (sym (append-nil (lines_text (booted f.platform vs).entries)))

output_parts : (f : File) (vs : List Voice) → output f vs ≡ head_text f.platform ++ (lines_text (booted f.platform vs).entries ++ after_boot (boot_fact f.platform vs) f vs)
unfolding output
output_parts f vs = by (boot_fact f.platform vs)
  where
    by : (o : Option BootFact) → text_by o f vs ≡ head_text f.platform ++ (lines_text (booted f.platform vs).entries ++ after_boot o f vs)
    by None = run_parts f vs
    by (Some fact) = boot_parts f vs

-- the text of a file is that of the rest of it, by these voices
pub scheduled_rest : (kinds : List VoiceKind) (f : File) (vs : List Voice) → scheduled f vs ≡ scheduled (with_voices kinds f) vs
unfolding scheduled
scheduled_rest kinds f vs =
    ap (λ (m : Made). (booted f.platform vs).entries ++ m.entries) (sym (turns_rest kinds f f.platform.turns 0 (booted f.platform vs).scene))

run_rest : (kinds : List VoiceKind) (f : File) (vs : List Voice) → run_text f vs ≡ run_text (with_voices kinds f) vs
unfolding run_text
run_rest kinds f vs = ap (trace_text f.platform) (scheduled_rest kinds f vs)

pub text_rest : (kinds : List VoiceKind) (f : File) (vs : List Voice) (o : Option BootFact) → text_by o f vs ≡ text_by o (with_voices kinds f) vs
unfolding boot_text
text_rest kinds f vs None = run_rest kinds f vs
text_rest kinds f vs (Some fact) = refl

pub output_rest : (kinds : List VoiceKind) (f : File) (vs : List Voice) → output f vs ≡ output (with_voices kinds f) vs
unfolding output
output_rest kinds f vs = text_rest kinds f vs (boot_fact f.platform vs)

module _ (f : File) (vs : List Voice) (a b : Option (List ℕ)) where
  -- the header was sent
  head_sent : Appends a b (head_text f.platform) → IsSent a b (lines_text (booted f.platform vs).entries ++ after_boot (boot_fact f.platform vs) f vs) (output f vs)
  head_sent head =
      sent_more a a b (head_text f.platform) (lines_text (booted f.platform vs).entries ++ after_boot (boot_fact f.platform vs) f vs) (output f vs)
      (subst (λ (t : List ℕ). IsSent a a t (output f vs)) (output_parts f vs) (sent_none a (output f vs))) head

  pub head_front : HoldsFront a b (head_text f.platform) → HoldsFront a b (output f vs)
  head_front part =
      front_part a a b (head_text f.platform) (lines_text (booted f.platform vs).entries ++ after_boot (boot_fact f.platform vs) f vs) (output f vs)
      (subst (λ (t : List ℕ). IsSent a a t (output f vs)) (output_parts f vs) (sent_none a (output f vs))) part

  module _ (c : Option (List ℕ)) (head : Appends a b (head_text f.platform)) where
    pub boot_front : HoldsFront b c (lines_text (booted f.platform vs).entries) → HoldsFront a c (output f vs)
    boot_front part = front_part a b c (lines_text (booted f.platform vs).entries) (after_boot (boot_fact f.platform vs) f vs) (output f vs) (head_sent head) part

    module _ (lines : Appends b c (lines_text (booted f.platform vs).entries)) where
      -- the boot's lines were sent too
      boot_sent : IsSent a c (after_boot (boot_fact f.platform vs) f vs) (output f vs)
      boot_sent = sent_more a b c (lines_text (booted f.platform vs).entries) (after_boot (boot_fact f.platform vs) f vs) (output f vs) (head_sent head) lines

      -- that is all where the boot was refused
      pub refused_sent : (fact : BootFact) → Some fact ≡ boot_fact f.platform vs → Appends a c (output f vs)
      refused_sent fact is = sent_all a c (after_boot (boot_fact f.platform vs) f vs) (output f vs) boot_sent (ap (λ (o : Option BootFact). after_boot o f vs) (sym is))

      module _ (d : Option (List ℕ)) (rest : List ℕ) (handed : None ≡ boot_fact f.platform vs) (is : rest ≡ after_boot None f vs) where
        rest-is : rest ≡ after_boot (boot_fact f.platform vs) f vs
        rest-is = is ∙ ap (λ (o : Option BootFact). after_boot o f vs) handed

        rest_sent : IsSent a c (rest ++ []) (output f vs)
        rest_sent = subst (λ (t : List ℕ). IsSent a c t (output f vs)) (sym rest-is ∙ sym (append-nil rest)) boot_sent

        pub turns_front_sent : HoldsFront c d rest → HoldsFront a d (output f vs)
        turns_front_sent part = front_part a c d rest [] (output f vs) rest_sent part

        pub turns_sent : Appends c d rest → Appends a d (output f vs)
        turns_sent all = sent_all a d [] (output f vs) (sent_more a c d rest [] (output f vs) rest_sent all) refl

-- the lines of the turns, and then the end line
module _ (m : Made) (booted : ℕ) (a b : Option (List ℕ)) where
  pub turns_lines_front : HoldsFront a b (lines_text m.entries) → HoldsFront a b (turns_text booted m)
  turns_lines_front part =
      front_part a a b (lines_text m.entries) (end_text (booted + length m.entries)) (turns_text booted m) (sent_none a (turns_text booted m)) part

  module _ (made : ℕ) (c : Option (List ℕ)) (count : length m.entries ≡ made) (lines : Appends a b (lines_text m.entries)) where
    end_next : IsSent a b (end_text (booted + made) ++ []) (turns_text booted m)
    end_next =
        subst (λ (t : List ℕ). IsSent a b t (turns_text booted m)) (ap (λ (n : ℕ). end_text (booted + n)) count ∙ sym (append-nil (end_text (booted + made))))
        (sent_more a a b (lines_text m.entries) (end_text (booted + length m.entries)) (turns_text booted m) (sent_none a (turns_text booted m)) lines)

    pub end_front : HoldsFront b c (end_text (booted + made)) → HoldsFront a c (turns_text booted m)
    end_front part = front_part a b c (end_text (booted + made)) [] (turns_text booted m) end_next part

    pub end_sent : Appends b c (end_text (booted + made)) → Appends a c (turns_text booted m)
    end_sent end = sent_all a c [] (turns_text booted m) (sent_more a b c (end_text (booted + made)) [] (turns_text booted m) end_next end) refl
