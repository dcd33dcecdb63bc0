-- Voices that agree with what places tell: there are some, and where all places tell there are no others.
use Rattle.std.proofs.Common.{◌≡◌, List, [], ◌∷◌, map, Option, Some, None, refl, sym, ap, subst, ◌∙◌}
use Rattle.hp_model.specs.declared.platforms.Platform.{Platform}
use Rattle.hp_model.specs.declared.files.File.{File}
use Rattle.hp_model.specs.declared.files.VoiceKind.{VoiceKind}
use Rattle.hp_model.specs.declared.files.VoiceKind.TheVariants.{Script, Os, Pen, Seeded, Handed}
use Rattle.hp_model.specs.Voices.{Voice, silent, voice_of, with_handed, voices_of, told_by, told_of, MayHave, Agree}

-- a voice that a place may have
abbrev pub some_voice : Option Voice → Voice
some_voice None = silent
some_voice (Some v) = v

pub has_some : (told : Option Voice) → MayHave told (some_voice told)
has_some None = refl
has_some (Some v) = refl

abbrev pub some_voices : List (Option Voice) → List Voice
some_voices [] = []
some_voices (told ∷ places) = some_voice told ∷ some_voices places

pub some_agree : (places : List (Option Voice)) → Agree places (some_voices places)
some_agree [] = tt
some_agree (told ∷ places) = (has_some told, some_agree places)

told_alone : (us vs : List Voice) → Agree (map (λ u. Some u) us) vs → vs ≡ us
told_alone [] [] agree = refl
told_alone [] (v ∷ vs) agree = absurd agree
told_alone (u ∷ us) [] agree = absurd agree
told_alone (u ∷ us) (v ∷ vs) agree = ap (λ (w : Voice). w ∷ vs) agree.0 ∙ ap (λ (ws : List Voice). u ∷ ws) (told_alone us vs agree.1)

told_agrees : (us : List Voice) → Agree (map (λ u. Some u) us) us
told_agrees [] = tt
told_agrees (u ∷ us) = (refl, told_agrees us)

-- what a file's places tell, where all that was handed in tells its voice
told_is : (p : Platform) (kinds : List VoiceKind) (handed : List Voice) →
    told_by p kinds (map (λ v. Some v) handed) ≡ map (λ v. Some v) (with_handed (voice_of p) kinds handed)
told_is p [] handed = refl
told_is p (Script steps ∷ kinds) handed = ap (λ (os : List (Option Voice)). Some (voice_of p (Script steps)) ∷ os) (told_is p kinds handed)
told_is p (Os ∷ kinds) handed = ap (λ (os : List (Option Voice)). Some (voice_of p Os) ∷ os) (told_is p kinds handed)
told_is p (Pen ∷ kinds) handed = ap (λ (os : List (Option Voice)). Some (voice_of p Pen) ∷ os) (told_is p kinds handed)
told_is p (Seeded seed ∷ kinds) handed = ap (λ (os : List (Option Voice)). Some (voice_of p (Seeded seed)) ∷ os) (told_is p kinds handed)
told_is p (Handed ∷ kinds) [] = ap (λ (os : List (Option Voice)). Some silent ∷ os) (told_is p kinds [])
told_is p (Handed ∷ kinds) (v ∷ handed) = ap (λ (os : List (Option Voice)). Some v ∷ os) (told_is p kinds handed)

pub told_agree : (f : File) (handed : List Voice) → Agree (told_of f (map (λ v. Some v) handed)) (voices_of f handed)
told_agree f handed =
    subst (λ (os : List (Option Voice)). Agree os (voices_of f handed)) (sym (told_is f.platform f.voices handed)) (told_agrees (voices_of f handed))

pub told_voices : (f : File) (handed vs : List Voice) → Agree (told_of f (map (λ v. Some v) handed)) vs → vs ≡ voices_of f handed
told_voices f handed vs agree = told_alone (voices_of f handed) vs (subst (λ (os : List (Option Voice)). Agree os vs) (told_is f.platform f.voices handed) agree)
