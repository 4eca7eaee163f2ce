-- The errors of refused requests, by the numbers of Xen's errno.h.
use Rattle.std.specs.Prelude.{ℕ, ℤ, pos, neg_ℤ}
use Rattle.pcm_stream.specs.declared.state.StreamRefusal.{StreamRefusal}
use Rattle.pcm_stream.specs.declared.state.StreamRefusal.TheVariants.{WrongState, Invalid, NoRoom, TooLittle}

-- EBUSY, EINVAL and EAGAIN
abbrev pub errno_of : StreamRefusal → ℕ
errno_of (WrongState state) = 16
errno_of Invalid = 22
errno_of (NoRoom room) = 11
errno_of (TooLittle queued) = 11

-- the status of the reply that refuses a request
abbrev pub status_of : StreamRefusal → ℤ
status_of why = neg_ℤ (pos (errno_of why))
