-- The hour put together from its four lines, and the hour of zeros beside a refusal.
use Rattle.std.specs.Prelude.{Bool, true, false, [], ◌∷◌, ℕ, pos, Float, Result, Ok, Err}
use Rattle.scalar.specs.F32.{◌-f◌, ◌≥f◌}
use Rattle.scalar.specs.Literals.{f0}
use Rattle.scalar.specs.Scalar.{max_of}
use Rattle.refusal.specs.declared.Refusal.{Refusal}
use Rattle.layers.specs.declared.IonoState.{IonoState}
use Rattle.layers.specs.declared.LayerMuf.{LayerMuf}
use Rattle.layer_mufs.specs.LayerLine.{zero_line}
use Rattle.muf.specs.declared.RegularLines.{RegularLines}
use Rattle.muf.specs.declared.Mode.{Mode}
use Rattle.muf.specs.declared.MufHour.{MufHour}
use Rattle.muf.specs.declared.MufAnswer.{MufAnswer}

-- emuf - allmuf >= 0, f1muf - allmuf >= 0
abbrev pub mode_by : Bool → Bool → RegularLines → Mode
mode_by true f1 m = record { angmuf = m.e.delmuf; modmuf = pos 1 }
mode_by false true m = record { angmuf = m.f1.delmuf; modmuf = pos 2 }
mode_by false false m = record { angmuf = m.f2.delmuf; modmuf = pos 3 }

unfoldable pub mode_of : RegularLines → Float → Mode
mode_of m allmuf = mode_by (m.e.ymuf -f allmuf ≥f f0) (m.f1.ymuf -f allmuf ≥f f0) m

-- each layer's MUF is the `ymuf` of its line
unfoldable pub hour_of : RegularLines → LayerMuf → ℕ → MufHour
hour_of m es ks =
    let emuf = m.e.ymuf in
    let f1muf = m.f1.ymuf in
    let f2muf = m.f2.ymuf in
    let fot = max_of (max_of m.e.yfot m.f1.yfot) m.f2.yfot in
    let allmuf = max_of (max_of emuf f1muf) f2muf in
    let hpf = max_of (max_of m.e.yhpf m.f1.yhpf) m.f2.yhpf in
    let by = mode_of m allmuf in
    record {
      emuf = emuf;
      f1muf = f1muf;
      f2muf = f2muf;
      esmuf = es.ymuf;
      allmuf = allmuf;
      fot = fot;
      hpf = hpf;
      angmuf = by.angmuf;
      modmuf = by.modmuf;
      layers = m.e ∷ m.f1 ∷ m.f2 ∷ es ∷ [];
      ks = ks;
    }

unfoldable pub zero_hour : MufHour
zero_hour =
    record {
      emuf = f0;
      f1muf = f0;
      f2muf = f0;
      esmuf = f0;
      allmuf = f0;
      fot = f0;
      hpf = f0;
      angmuf = f0;
      modmuf = pos 0;
      layers = zero_line ∷ zero_line ∷ zero_line ∷ zero_line ∷ [];
      ks = 0;
    }

-- the values of each case: the hour, of +0 beside a refusal, and the state, as it came beside one
abbrev pub hour_value : Result MufAnswer Refusal → MufHour
hour_value (Ok a) = a.hour
hour_value (Err r) = zero_hour

abbrev pub state_value : IonoState → Result MufAnswer Refusal → IonoState
state_value s (Ok a) = a.state
state_value s (Err r) = s
