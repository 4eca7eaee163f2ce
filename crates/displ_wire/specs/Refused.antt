-- The errors of requests, by the numbers of Xen's errno.h.
use Rattle.std.specs.Prelude.{ℕ, ℤ, pos, neg_ℤ}
use Rattle.displ_wire.specs.declared.buffer.Refused.{Refused}
use Rattle.displ_wire.specs.declared.buffer.Refused.TheVariants.{NotSupported, Exists, Full, Invalid, Unknown, InUse, Pending}

-- EOPNOTSUPP, EEXIST, ENOSPC, EINVAL, ENOENT and EBUSY
abbrev pub errno_of : Refused → ℕ
errno_of NotSupported = 95
errno_of Exists = 17
errno_of Full = 28
errno_of Invalid = 22
errno_of Unknown = 2
errno_of (InUse framebuffer) = 16
errno_of (Pending framebuffer) = 16

-- the status of the reply that refuses a request
abbrev pub status_of : Refused → ℤ
status_of why = neg_ℤ (pos (errno_of why))
