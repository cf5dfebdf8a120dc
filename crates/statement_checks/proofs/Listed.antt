-- The lists computed.
use mathlib.Core.Path.{refl}
use lib.Ieee.{lt, neg, of_bits}
use Rattle.scalar.specs.Literals.{literals}
use Rattle.nominal.specs.FactorLiterals.{coefficients}
use Rattle.statement_checks.specs.Listed.{LiteralsListed, TrialsListed}

pub literals-listed : LiteralsListed
unfolding literals coefficients lt neg of_bits
literals-listed =
    record {
      value = λ x n d. refl;
      digits = λ x n d. refl;
      places = λ x n d. refl;
      literals-all = refl;
      literals-climb = refl;
      coefficients-all = refl;
      coefficients-climb = refl;
    }

pub trials-listed : TrialsListed
trials-listed = record { trial = λ t r. refl; paper = λ t r. refl; holds = λ t r rows h. h }
