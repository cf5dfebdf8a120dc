-- The decimal literals of the two Rust modules, by name: `f0_2` is the f32 that the Rust writes `0.2`. The table at the end says which decimal each one is written for, and
-- `LiteralsNearest` of Laws.antt says that each is the f32 nearest to its decimal. A negative literal is `neg` of one of these, as in the Rust.
use Rattle.std.specs.Prelude.{List, [], ◌∷◌, ℕ, ◌^◌, false, Float}
use Rattle.std.specs.Float.{binary32}
use Rattle.std.specs.Float.Ieee.{of_bits, round}

abbrev pub f0 : Float
f0 = of_bits binary32 0x0

abbrev pub f0_000001 : Float
f0_000001 = of_bits binary32 0x358637bd

abbrev pub f0_00001 : Float
f0_00001 = of_bits binary32 0x3727c5ac

abbrev pub f0_001 : Float
f0_001 = of_bits binary32 0x3a83126f

abbrev pub f0_0045212771 : Float
f0_0045212771 = of_bits binary32 0x3b942739

abbrev pub f0_01 : Float
f0_01 = of_bits binary32 0x3c23d70a

abbrev pub f0_0104982845 : Float
f0_0104982845 = of_bits binary32 0x3c2c00ff

abbrev pub f0_0164210584 : Float
f0_0164210584 = of_bits binary32 0x3c868575

abbrev pub f0_01745329251 : Float
f0_01745329251 = of_bits binary32 0x3c8efa35

abbrev pub f0_0222458492 : Float
f0_0222458492 = of_bits binary32 0x3cb63ced

abbrev pub f0_027937007 : Float
f0_027937007 = of_bits binary32 0x3ce4dc26

abbrev pub f0_0334601953 : Float
f0_0334601953 = of_bits binary32 0x3d090d8f

abbrev pub f0_0387724175 : Float
f0_0387724175 = of_bits binary32 0x3d1ecfd4

abbrev pub f0_038782168 : Float
f0_038782168 = of_bits binary32 0x3d1eda0d

abbrev pub f0_0438709082 : Float
f0_0438709082 = of_bits binary32 0x3d33b1fb

abbrev pub f0_0486958076 : Float
f0_0486958076 = of_bits binary32 0x3d477541

abbrev pub f0_05 : Float
f0_05 = of_bits binary32 0x3d4ccccd

abbrev pub f0_053227847 : Float
f0_053227847 = of_bits binary32 0x3d5a0571

abbrev pub f0_0574397691 : Float
f0_0574397691 = of_bits binary32 0x3d6b45f7

abbrev pub f0_0613062425 : Float
f0_0613062425 = of_bits binary32 0x3d7b1c41

abbrev pub f0_0648040135 : Float
f0_0648040135 = of_bits binary32 0x3d84b7f7

abbrev pub f0_0679120458 : Float
f0_0679120458 = of_bits binary32 0x3d8b1578

abbrev pub f0_0706116474 : Float
f0_0706116474 = of_bits binary32 0x3d909cd7

abbrev pub f0_0728865824 : Float
f0_0728865824 = of_bits binary32 0x3d95458f

abbrev pub f0_0747231691 : Float
f0_0747231691 = of_bits binary32 0x3d990876

abbrev pub f0_0761103619 : Float
f0_0761103619 = of_bits binary32 0x3d9bdfc0

abbrev pub f0_0770398182 : Float
f0_0770398182 = of_bits binary32 0x3d9dc70d

abbrev pub f0_077505948 : Float
f0_077505948 = of_bits binary32 0x3d9ebb70

abbrev pub f0_1 : Float
f0_1 = of_bits binary32 0x3dcccccd

abbrev pub f0_1160840707 : Float
f0_1160840707 = of_bits binary32 0x3dedbd7c

abbrev pub f0_15 : Float
f0_15 = of_bits binary32 0x3e19999a

abbrev pub f0_17 : Float
f0_17 = of_bits binary32 0x3e2e147b

abbrev pub f0_1926975807 : Float
f0_1926975807 = of_bits binary32 0x3e455284

abbrev pub f0_2 : Float
f0_2 = of_bits binary32 0x3e4ccccd

abbrev pub f0_25 : Float
f0_25 = of_bits binary32 0x3e800000

abbrev pub f0_268152185 : Float
f0_268152185 = of_bits binary32 0x3e894b3e

abbrev pub f0_3419940908 : Float
f0_3419940908 = of_bits binary32 0x3eaf19d9

abbrev pub f0_4137792043 : Float
f0_4137792043 = of_bits binary32 0x3ed3dade

abbrev pub f0_4830758017 : Float
f0_4830758017 = of_bits binary32 0x3ef755b6

abbrev pub f0_5 : Float
f0_5 = of_bits binary32 0x3f000000

abbrev pub f0_5494671251 : Float
f0_5494671251 = of_bits binary32 0x3f0ca9e1

abbrev pub f0_6125538897 : Float
f0_6125538897 = of_bits binary32 0x3f1cd055

abbrev pub f0_6719566846 : Float
f0_6719566846 = of_bits binary32 0x3f2c055a

abbrev pub f0_7273182552 : Float
f0_7273182552 = of_bits binary32 0x3f3a3187

abbrev pub f0_7783056514 : Float
f0_7783056514 = of_bits binary32 0x3f473f0a

abbrev pub f0_8246122308 : Float
f0_8246122308 = of_bits binary32 0x3f5319ca

abbrev pub f0_85 : Float
f0_85 = of_bits binary32 0x3f59999a

abbrev pub f0_8516 : Float
f0_8516 = of_bits binary32 0x3f5a0275

abbrev pub f0_8659595032 : Float
f0_8659595032 = of_bits binary32 0x3f5daf86

abbrev pub f0_9 : Float
f0_9 = of_bits binary32 0x3f666666

abbrev pub f0_902098807 : Float
f0_902098807 = of_bits binary32 0x3f66eff3

abbrev pub f0_92 : Float
f0_92 = of_bits binary32 0x3f6b851f

abbrev pub f0_9328128083 : Float
f0_9328128083 = of_bits binary32 0x3f6eccd2

abbrev pub f0_957 : Float
f0_957 = of_bits binary32 0x3f74fdf4

abbrev pub f0_9579168192 : Float
f0_9579168192 = of_bits binary32 0x3f753a09

abbrev pub f0_96 : Float
f0_96 = of_bits binary32 0x3f75c28f

abbrev pub f0_97725995 : Float
f0_97725995 = of_bits binary32 0x3f7a2db5

abbrev pub f0_98 : Float
f0_98 = of_bits binary32 0x3f7ae148

abbrev pub f0_99 : Float
f0_99 = of_bits binary32 0x3f7d70a4

abbrev pub f0_9907262387 : Float
f0_9907262387 = of_bits binary32 0x3f7da03c

abbrev pub f0_9982377097 : Float
f0_9982377097 = of_bits binary32 0x3f7f8c82

abbrev pub f0_999 : Float
f0_999 = of_bits binary32 0x3f7fbe77

abbrev pub f0_9999 : Float
f0_9999 = of_bits binary32 0x3f7ff972

abbrev pub f1 : Float
f1 = of_bits binary32 0x3f800000

abbrev pub f1_001 : Float
f1_001 = of_bits binary32 0x3f8020c5

abbrev pub f1_01 : Float
f1_01 = of_bits binary32 0x3f8147ae

abbrev pub f1_05 : Float
f1_05 = of_bits binary32 0x3f866666

abbrev pub f1_1 : Float
f1_1 = of_bits binary32 0x3f8ccccd

abbrev pub f1_28 : Float
f1_28 = of_bits binary32 0x3fa3d70a

abbrev pub f1_28155 : Float
f1_28155 = of_bits binary32 0x3fa409d5

abbrev pub f1_55 : Float
f1_55 = of_bits binary32 0x3fc66666

abbrev pub f1_570796326 : Float
f1_570796326 = of_bits binary32 0x3fc90fdb

abbrev pub f2 : Float
f2 = of_bits binary32 0x40000000

abbrev pub f3 : Float
f3 = of_bits binary32 0x40400000

abbrev pub f3_1 : Float
f3_1 = of_bits binary32 0x40466666

abbrev pub f4 : Float
f4 = of_bits binary32 0x40800000

abbrev pub f5 : Float
f5 = of_bits binary32 0x40a00000

abbrev pub f6 : Float
f6 = of_bits binary32 0x40c00000

abbrev pub f6_3 : Float
f6_3 = of_bits binary32 0x40c9999a

abbrev pub f8 : Float
f8 = of_bits binary32 0x41000000

abbrev pub f8_5 : Float
f8_5 = of_bits binary32 0x41080000

abbrev pub f9 : Float
f9 = of_bits binary32 0x41100000

abbrev pub f9_5 : Float
f9_5 = of_bits binary32 0x41180000

abbrev pub f10 : Float
f10 = of_bits binary32 0x41200000

abbrev pub f12 : Float
f12 = of_bits binary32 0x41400000

abbrev pub f14 : Float
f14 = of_bits binary32 0x41600000

abbrev pub f16 : Float
f16 = of_bits binary32 0x41800000

abbrev pub f18 : Float
f18 = of_bits binary32 0x41900000

abbrev pub f20 : Float
f20 = of_bits binary32 0x41a00000

abbrev pub f22 : Float
f22 = of_bits binary32 0x41b00000

abbrev pub f24 : Float
f24 = of_bits binary32 0x41c00000

abbrev pub f26 : Float
f26 = of_bits binary32 0x41d00000

abbrev pub f28 : Float
f28 = of_bits binary32 0x41e00000

abbrev pub f30 : Float
f30 = of_bits binary32 0x41f00000

abbrev pub f32 : Float
f32 = of_bits binary32 0x42000000

abbrev pub f34 : Float
f34 = of_bits binary32 0x42080000

abbrev pub f36 : Float
f36 = of_bits binary32 0x42100000

abbrev pub f38 : Float
f38 = of_bits binary32 0x42180000

abbrev pub f40 : Float
f40 = of_bits binary32 0x42200000

abbrev pub f42 : Float
f42 = of_bits binary32 0x42280000

abbrev pub f44 : Float
f44 = of_bits binary32 0x42300000

abbrev pub f46 : Float
f46 = of_bits binary32 0x42380000

abbrev pub f48 : Float
f48 = of_bits binary32 0x42400000

abbrev pub f50 : Float
f50 = of_bits binary32 0x42480000

abbrev pub f52 : Float
f52 = of_bits binary32 0x42500000

abbrev pub f54 : Float
f54 = of_bits binary32 0x42580000

abbrev pub f56 : Float
f56 = of_bits binary32 0x42600000

abbrev pub f57_29577 : Float
f57_29577 = of_bits binary32 0x42652ede

abbrev pub f57_295779513 : Float
f57_295779513 = of_bits binary32 0x42652ee1

abbrev pub f60 : Float
f60 = of_bits binary32 0x42700000

abbrev pub f65 : Float
f65 = of_bits binary32 0x42820000

abbrev pub f70 : Float
f70 = of_bits binary32 0x428c0000

abbrev pub f75 : Float
f75 = of_bits binary32 0x42960000

abbrev pub f80 : Float
f80 = of_bits binary32 0x42a00000

abbrev pub f84_51 : Float
f84_51 = of_bits binary32 0x42a9051f

abbrev pub f85 : Float
f85 = of_bits binary32 0x42aa0000

abbrev pub f87_4 : Float
f87_4 = of_bits binary32 0x42aecccd

abbrev pub f88_52 : Float
f88_52 = of_bits binary32 0x42b10a3d

abbrev pub f89_99 : Float
f89_99 = of_bits binary32 0x42b3fae1

abbrev pub f90 : Float
f90 = of_bits binary32 0x42b40000

abbrev pub f93 : Float
f93 = of_bits binary32 0x42ba0000

abbrev pub f94 : Float
f94 = of_bits binary32 0x42bc0000

abbrev pub f94_26 : Float
f94_26 = of_bits binary32 0x42bc851f

abbrev pub f95_71 : Float
f95_71 = of_bits binary32 0x42bf6b85

abbrev pub f97_68 : Float
f97_68 = of_bits binary32 0x42c35c29

abbrev pub f98_68 : Float
f98_68 = of_bits binary32 0x42c55c29

abbrev pub f100 : Float
f100 = of_bits binary32 0x42c80000

abbrev pub f100_2 : Float
f100_2 = of_bits binary32 0x42c86666

abbrev pub f100_27 : Float
f100_27 = of_bits binary32 0x42c88a3d

abbrev pub f102_65 : Float
f102_65 = of_bits binary32 0x42cd4ccd

abbrev pub f104_22 : Float
f104_22 = of_bits binary32 0x42d070a4

abbrev pub f104_25 : Float
f104_25 = of_bits binary32 0x42d08000

abbrev pub f107_15 : Float
f107_15 = of_bits binary32 0x42d64ccd

abbrev pub f107_19 : Float
f107_19 = of_bits binary32 0x42d66148

abbrev pub f113_74 : Float
f113_74 = of_bits binary32 0x42e37ae1

abbrev pub f125_25 : Float
f125_25 = of_bits binary32 0x42fa8000

abbrev pub f125_3 : Float
f125_3 = of_bits binary32 0x42fa999a

abbrev pub f140_03 : Float
f140_03 = of_bits binary32 0x430c07ae

abbrev pub f999 : Float
f999 = of_bits binary32 0x4479c000

abbrev pub f1000 : Float
f1000 = of_bits binary32 0x447a0000

abbrev pub f2000 : Float
f2000 = of_bits binary32 0x44fa0000

abbrev pub f6370 : Float
f6370 = of_bits binary32 0x45c71000

abbrev pub f40100 : Float
f40100 = of_bits binary32 0x471ca400

-- The f32 nearest to n / 10 ^ d.
unfoldable pub decimal : ℕ → ℕ → Float
decimal n d = round binary32 false n (10 ^ d)

-- A literal: its value, and the decimal digits / 10 ^ places that it is written for.
pub record Literal : Type 0 where
  pub value : Float
  pub digits : ℕ
  pub places : ℕ

abbrev pub is : Float → ℕ → ℕ → Literal
is x n d = record { value = x; digits = n; places = d }

unfoldable pub literals : List Literal
literals =
    is f0 0 0 ∷
    is f0_000001 1 6 ∷
    is f0_00001 1 5 ∷
    is f0_001 1 3 ∷
    is f0_0045212771 45212771 10 ∷
    is f0_01 1 2 ∷
    is f0_0104982845 104982845 10 ∷
    is f0_0164210584 164210584 10 ∷
    is f0_01745329251 1745329251 11 ∷
    is f0_0222458492 222458492 10 ∷
    is f0_027937007 27937007 9 ∷
    is f0_0334601953 334601953 10 ∷
    is f0_0387724175 387724175 10 ∷
    is f0_038782168 38782168 9 ∷
    is f0_0438709082 438709082 10 ∷
    is f0_0486958076 486958076 10 ∷
    is f0_05 5 2 ∷
    is f0_053227847 53227847 9 ∷
    is f0_0574397691 574397691 10 ∷
    is f0_0613062425 613062425 10 ∷
    is f0_0648040135 648040135 10 ∷
    is f0_0679120458 679120458 10 ∷
    is f0_0706116474 706116474 10 ∷
    is f0_0728865824 728865824 10 ∷
    is f0_0747231691 747231691 10 ∷
    is f0_0761103619 761103619 10 ∷
    is f0_0770398182 770398182 10 ∷
    is f0_077505948 77505948 9 ∷
    is f0_1 1 1 ∷
    is f0_1160840707 1160840707 10 ∷
    is f0_15 15 2 ∷
    is f0_17 17 2 ∷
    is f0_1926975807 1926975807 10 ∷
    is f0_2 2 1 ∷
    is f0_25 25 2 ∷
    is f0_268152185 268152185 9 ∷
    is f0_3419940908 3419940908 10 ∷
    is f0_4137792043 4137792043 10 ∷
    is f0_4830758017 4830758017 10 ∷
    is f0_5 5 1 ∷
    is f0_5494671251 5494671251 10 ∷
    is f0_6125538897 6125538897 10 ∷
    is f0_6719566846 6719566846 10 ∷
    is f0_7273182552 7273182552 10 ∷
    is f0_7783056514 7783056514 10 ∷
    is f0_8246122308 8246122308 10 ∷
    is f0_85 85 2 ∷
    is f0_8516 8516 4 ∷
    is f0_8659595032 8659595032 10 ∷
    is f0_9 9 1 ∷
    is f0_902098807 902098807 9 ∷
    is f0_92 92 2 ∷
    is f0_9328128083 9328128083 10 ∷
    is f0_957 957 3 ∷
    is f0_9579168192 9579168192 10 ∷
    is f0_96 96 2 ∷
    is f0_97725995 97725995 8 ∷
    is f0_98 98 2 ∷
    is f0_99 99 2 ∷
    is f0_9907262387 9907262387 10 ∷
    is f0_9982377097 9982377097 10 ∷
    is f0_999 999 3 ∷
    is f0_9999 9999 4 ∷
    is f1 1 0 ∷
    is f1_001 1001 3 ∷
    is f1_01 101 2 ∷
    is f1_05 105 2 ∷
    is f1_1 11 1 ∷
    is f1_28 128 2 ∷
    is f1_28155 128155 5 ∷
    is f1_55 155 2 ∷
    is f1_570796326 1570796326 9 ∷
    is f2 2 0 ∷
    is f3 3 0 ∷
    is f3_1 31 1 ∷
    is f4 4 0 ∷
    is f5 5 0 ∷
    is f6 6 0 ∷
    is f6_3 63 1 ∷
    is f8 8 0 ∷
    is f8_5 85 1 ∷
    is f9 9 0 ∷
    is f9_5 95 1 ∷
    is f10 10 0 ∷
    is f12 12 0 ∷
    is f14 14 0 ∷
    is f16 16 0 ∷
    is f18 18 0 ∷
    is f20 20 0 ∷
    is f22 22 0 ∷
    is f24 24 0 ∷
    is f26 26 0 ∷
    is f28 28 0 ∷
    is f30 30 0 ∷
    is f32 32 0 ∷
    is f34 34 0 ∷
    is f36 36 0 ∷
    is f38 38 0 ∷
    is f40 40 0 ∷
    is f42 42 0 ∷
    is f44 44 0 ∷
    is f46 46 0 ∷
    is f48 48 0 ∷
    is f50 50 0 ∷
    is f52 52 0 ∷
    is f54 54 0 ∷
    is f56 56 0 ∷
    is f57_29577 5729577 5 ∷
    is f57_295779513 57295779513 9 ∷
    is f60 60 0 ∷
    is f65 65 0 ∷
    is f70 70 0 ∷
    is f75 75 0 ∷
    is f80 80 0 ∷
    is f84_51 8451 2 ∷
    is f85 85 0 ∷
    is f87_4 874 1 ∷
    is f88_52 8852 2 ∷
    is f89_99 8999 2 ∷
    is f90 90 0 ∷
    is f93 93 0 ∷
    is f94 94 0 ∷
    is f94_26 9426 2 ∷
    is f95_71 9571 2 ∷
    is f97_68 9768 2 ∷
    is f98_68 9868 2 ∷
    is f100 100 0 ∷
    is f100_2 1002 1 ∷
    is f100_27 10027 2 ∷
    is f102_65 10265 2 ∷
    is f104_22 10422 2 ∷
    is f104_25 10425 2 ∷
    is f107_15 10715 2 ∷
    is f107_19 10719 2 ∷
    is f113_74 11374 2 ∷
    is f125_25 12525 2 ∷
    is f125_3 1253 1 ∷
    is f140_03 14003 2 ∷
    is f999 999 0 ∷
    is f1000 1000 0 ∷
    is f2000 2000 0 ∷
    is f6370 6370 0 ∷
    is f40100 40100 0 ∷
    []
