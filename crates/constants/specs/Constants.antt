-- The Rust's constants (constants.rs), each the f32 nearest to the decimal that stands there.
use Rattle.std.specs.Prelude.{Float}
use Rattle.scalar.specs.Literals.{f0_01745329251, f1_570796326, f57_295779513, f6370}

-- degrees to radians
abbrev pub D2R : Float
D2R = f0_01745329251

-- radians to degrees
abbrev pub R2D : Float
R2D = f57_295779513

-- half pi
abbrev pub PIO2 : Float
PIO2 = f1_570796326

-- the Earth's radius, km
abbrev pub RZ : Float
RZ = f6370
