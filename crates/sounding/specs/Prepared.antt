-- On a slot that `lecden` has just prepared `genion` is never refused 19.
use Rattle.std.specs.Prelude.{true, ◌≡◌, Ok, ℕ, leb}
use Rattle.layers.specs.declared.IonoState.{IonoState}
use Rattle.profile.specs.Lecden.{lecden_of}
use Rattle.sounding.specs.Genion.{genion_of, genion_answer}

-- what `genion-prepared` says
abbrev pub GenionPrepared : Type 0
GenionPrepared = (s : IonoState) (k : ℕ) → leb k 2 ≡ true → genion_answer (lecden_of s k) k ≡ Ok (genion_of (lecden_of s k) k)
