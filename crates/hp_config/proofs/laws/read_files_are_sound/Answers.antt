-- A text that is read has a tree, and the tree is that of a file.
use Rattle.std.proofs.Common.{◌≡◌, Option, Some, None}
use Rattle.std.specs.Prelude.{option_map}
use Rattle.std.proofs.lemmas.Option.{same_Some}
use Rattle.toml.specs.Data.{Members}
use Rattle.toml.specs.Parse.{parse_document}
use Rattle.hp_model.specs.declared.files.File.{File}
use Rattle.hp_config.specs.Reading.{file_of, good}
use Rattle.hp_config.specs.Sound.{IsSound}
use Rattle.hp_config.proofs.Good.{good_is_sound}
use Rattle.hp_config.proofs.laws.read_files_are_sound.Goals as goal

document_is_sound : (d : Option Members) (f : File) → option_map file_of d ≡ Some (good f) → IsSound f
document_is_sound None f is = cc
document_is_sound (Some ms) f is = good_is_sound ms f (same_Some (file_of ms) (good f) is)

pub returns : goal.returns
returns c = λ text f is. document_is_sound (parse_document text) f is.1
