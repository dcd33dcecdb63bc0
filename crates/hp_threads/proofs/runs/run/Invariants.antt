use Rattle.hp_threads.proofs.runs.run.Given as goal

-- what stood at entry
abbrev pub ghosts-run_named : goal.ghosts-run_named
ghosts-run_named g a = record { world = a.world; turns = a.turns; hosts = a.hosts.now }
