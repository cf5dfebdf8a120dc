-- The paper's marked trials: both sides of every row compute. Assumes nothing.
use mathlib.Core.Path.{refl}
use lib.Ieee.{add, sub, mul, div, le, lt, of_bits, neg, round}
use Rattle.scalar.specs.Literals.{decimal}
use Rattle.scalar.specs.Scalar.{trunc_of, min_of}
use Rattle.scalar.specs.Root.{sqrt_of}
use Rattle.layers.specs.Owners.{disowned}
use Rattle.layers.specs.Rules.{count_taken, row_set, too_close}
use Rattle.layers.specs.FromLayers.{from_layers_of, empty_of, points_set, point_set}
use Rattle.layers.specs.Ionset.{ionset_of, assigned_of, slots_settled, slot_settled, f1_settled, f2_settled}
use Rattle.deciles.specs.F2dis.{f2dis_of, icc_of, time_block_of}
use Rattle.reflectrix.specs.Angles.{sang_of, distance_step_of, angle_count_of, raised_from, ANG, NANGX}
use Rattle.starred.specs.Starred.{Holds, starred, result_of}

pub starred-trials : Holds starred
unfolding result_of decimal add sub mul div le lt of_bits neg round trunc_of min_of sqrt_of from_layers_of count_taken empty_of points_set point_set row_set ionset_of disowned assigned_of slots_settled slot_settled f1_settled f2_settled too_close f2dis_of icc_of time_block_of sang_of distance_step_of angle_count_of raised_from ANG NANGX
starred-trials = (refl, (refl, (refl, (refl, (refl, (refl, (refl, (refl, (refl, (refl, (refl, (refl, (refl, (refl, (refl, (refl, tt))))))))))))))))
