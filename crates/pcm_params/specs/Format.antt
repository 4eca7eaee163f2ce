-- The formats of samples. Their numbers are this project's own, after the order of the names in sndif.h.
use Rattle.std.specs.Prelude.{ℕ, ◌*◌, nat_le, if◌then◌else◌}
use Rattle.pcm_params.specs.declared.params.Params.{Params}
use Rattle.pcm_params.specs.declared.format.Format.{Format}
use Rattle.pcm_params.specs.declared.format.Format.TheVariants.{S8, U8, S16Le, S16Be, U16Le, U16Be, S24Le, S24Be, U24Le, U24Be, S32Le, S32Be, U32Le, U32Be}

abbrev pub number_of : Format → ℕ
number_of S8 = 0
number_of U8 = 1
number_of S16Le = 2
number_of S16Be = 3
number_of U16Le = 4
number_of U16Be = 5
number_of S24Le = 6
number_of S24Be = 7
number_of U24Le = 8
number_of U24Be = 9
number_of S32Le = 10
number_of S32Be = 11
number_of U32Le = 12
number_of U32Be = 13

-- how many octets a sample takes in the format of a number: 8 bits take one, 16 bits two, and 24 and 32 bits four
abbrev pub sample_of : ℕ → ℕ
sample_of format =
    if nat_le format 1
    then 1
    else if nat_le format 5
    then 2
    else if nat_le format 13
    then 4
    else 0

-- how many octets a frame takes: a sample for each channel
abbrev pub frame_of : Params → ℕ
frame_of p = p.pcm_channels * sample_of p.pcm_format
