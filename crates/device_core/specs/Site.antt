-- Whose device it is, how many parts it has, and how many frames and grant entries its domain has.
use Rattle.std.specs.Prelude.{ℕ}

pub record Site : Type 0 where
  pub dom : ℕ
  pub parts : ℕ
  pub frames : ℕ
  pub grants : ℕ
