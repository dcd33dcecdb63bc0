-- The header in parts, as it is written.
use Rattle.std.specs.Prelude.{List, [], ◌∷◌, codes}
use Rattle.hp_model.specs.declared.platforms.Platform.{Platform}
use Rattle.hp_model.specs.Text.{Piece, word, number, hexadecimal, numbers_text, truth_text, ext_pieces, spell}

-- all before the delivery
abbrev pub front_pieces : Platform → List Piece
front_pieces p =
    word (codes "platform apic=") ∷ word (numbers_text p.apic)
    ∷ word (codes " boot=") ∷ word (numbers_text p.boot)
    ∷ word (codes " low=") ∷ hexadecimal 8 p.low_memory
    ∷ word (codes " tseg=") ∷ number p.tseg_mib
    ∷ word (spell (ext_pieces p.ext_tseg))
    ∷ word (codes " features=") ∷ number p.features
    ∷ word (codes " polls=") ∷ number p.polls
    ∷ word (codes " turns=") ∷ number p.turns
    ∷ word (codes " modern=") ∷ word (truth_text p.modern)
    ∷ word (codes " smram=") ∷ word (truth_text p.default_smram) ∷ []
