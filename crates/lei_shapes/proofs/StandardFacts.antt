-- Values from outside, so that a wrong rule in the specs doesn't check. Days and texts are those of RFC 3339 and of
-- Python's `datetime`.
use Rattle.std.proofs.Common.{◌≡◌, [], ◌∷◌, map, true, false, None, Some, refl, pos, negsuc, neg_ℤ, codes}
use Rattle.std.specs.Str.{chars}
use Rattle.jiff.proofs.OnLiterals.{jiff_on_literals}
use Rattle.lei_shapes.specs.declared.shapes.Shape.TheVariants as Shape
use Rattle.lei_shapes.specs.Clock.{moment_text}
use Rattle.lei_shapes.specs.Moment.{read_moment, day_of}
use Rattle.lei_shapes.specs.Shape.{fits_shape}

pub known_texts : map moment_text (neg_ℤ (pos 62_135_596_800) ∷ negsuc 0 ∷ pos 951_808_089 ∷ pos 253_370_764_799 ∷ [])
    ≡ codes "0001-01-01T00:00:00Z" ∷ codes "1969-12-31T23:59:59Z" ∷ codes "2000-02-29T07:08:09Z" ∷ codes "9998-12-31T23:59:59Z" ∷ []
unfolding moment_text
known_texts = refl

pub known_days : map day_of (neg_ℤ (pos 62_135_596_800) ∷ negsuc 0 ∷ pos 0 ∷ pos 86_400 ∷ pos 253_370_764_799 ∷ [])
    ≡ neg_ℤ (pos 719_162) ∷ negsuc 0 ∷ pos 0 ∷ pos 1 ∷ pos 2_932_531 ∷ []
known_days = refl

pub known_readings : map read_moment (codes "2025-01-10T10:00:00.250+01:00" ∷ codes "1969-12-31T23:59:59.5Z" ∷ codes "2025-01-10T09:00:00" ∷ codes "9999-01-01T00:00:00Z" ∷ [])
    ≡ Some (pos 1_736_499_600) ∷ Some (negsuc 0) ∷ None ∷ None ∷ []
unfolding read_moment jiff_on_literals
known_readings = refl

pub known_fits : map (fits_shape Shape.Jurisdiction) (codes "FR" ∷ codes "FR-" ∷ codes "FR-ABC" ∷ codes "FR-ABCD" ∷ codes "fr" ∷ [])
    ≡ true ∷ false ∷ true ∷ false ∷ false ∷ []
known_fits = refl

pub known_codes : map (fits_shape Shape.Codes)
    (codes "00000000000000000195"
    ∷ codes "00000000000000000292 00000000000000000389"
    ∷ codes "00000000000000000195 00000000000000000292 00000000000000000389 00000000000000000486 506700GE1G29325QX363"
    ∷ codes ""
    ∷ codes "00000000000000000292 00000000000000000292"
    ∷ codes "00000000000000000292  00000000000000000389"
    ∷ codes "00000000000000000292 "
    ∷ codes " 00000000000000000292"
    ∷ codes "00000000000000000292 0000000000000000038"
    ∷ codes "00000000000000000195 00000000000000000292 00000000000000000389 00000000000000000486 506700GE1G29325QX363 HWUPKR0MPOU8FGXBT394"
    ∷ [])
    ≡ true ∷ true ∷ true ∷ false ∷ false ∷ false ∷ false ∷ false ∷ false ∷ false ∷ []
known_codes = refl

pub known_frees : map (fits_shape Shape.Free) (codes "" ∷ codes "Alpha" ∷ (194 ∷ 128 ∷ []) ∷ (194 ∷ 160 ∷ []) ∷ [])
    ≡ false ∷ true ∷ false ∷ true ∷ []
unfolding chars
known_frees = refl
