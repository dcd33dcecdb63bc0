-- What holds of each file that is read, for the crates above (own rules).
use Rattle.std.specs.Prelude.{◌≡◌, true, length}
use Rattle.hp_model.specs.declared.files.File.{File}
use Rattle.hp_model.specs.Platform.{count_of, IsFit}
use Rattle.hp_config.specs.Rules.{hosts_are_hosts, hosts_fit, stalls_fit}

-- the platform fits, each possible processor has one voice, events name possible processors, and those of the host are inserts and removes
pub record IsSound (f : File) : Type 0 where
  pub fit : IsFit f.platform
  pub voices : length f.voices ≡ count_of f.platform
  pub hosts : hosts_fit (count_of f.platform) f.hosts ≡ true
  pub actors : hosts_are_hosts f.hosts ≡ true
  pub stalls : stalls_fit (count_of f.platform) f.stalls ≡ true
