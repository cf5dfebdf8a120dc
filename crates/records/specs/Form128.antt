-- The form of circuit file that carries F2M3.
use Rattle.records.specs.declared.Form.{Form}

-- Records of 128 bytes, so files of 256 to 8,192; record 0 has kind 4; a point has one word after its fifteen, F2M3, which so
-- stands at byte 64. All else after byte 63 is zero.
abbrev pub form128 : Form
form128 = record { size = 128; first = 4; extra = 1 }
