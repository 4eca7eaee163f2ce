-- The parameters with which a stream can be opened: the ranges and the limit are this project's own.
use Rattle.std.specs.Prelude.{Bool, ◌&&◌, ◌==◌, ◌%◌, nat_lt, nat_le}
use Rattle.pcm_params.specs.declared.params.Params.{Params}
use Rattle.pcm_params.specs.Format.{frame_of}

-- a known format, a rate and a number of channels that are offered, and a buffer of at most 1 MiB that holds whole frames
-- and isn't empty
abbrev pub is_accepted : Params → Bool
is_accepted p =
    nat_le p.pcm_format 13
    && (nat_le 8000 p.pcm_rate
    && (nat_le p.pcm_rate 192000
    && (nat_le 1 p.pcm_channels
    && (nat_le p.pcm_channels 8
    && (nat_lt 0 p.buffer_sz
    && (nat_le p.buffer_sz 1048576
    && (p.buffer_sz % frame_of p == 0)))))))
