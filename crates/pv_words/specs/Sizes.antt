-- What a scenario may declare of its domains.
use Rattle.std.specs.Prelude.{ℕ, ◌*◌, ◌≤◌, ◌==◌, List, [], ◌∷◌, All, sum_by, if◌then◌else◌}
use Rattle.pv_words.specs.declared.setup.DomainSize.{DomainSize}

-- how many frames, and grant entries, a domain has: 0 where it isn't declared
abbrev pub frames_by : List DomainSize → ℕ → ℕ
frames_by [] d = 0
frames_by (s ∷ ss) d = if s.dom.0 == d then s.frames else frames_by ss d

abbrev pub grants_by : List DomainSize → ℕ → ℕ
grants_by [] d = 0
grants_by (s ∷ ss) d = if s.dom.0 == d then s.grants else grants_by ss d

-- the limit of frames over all domains, and of grant entries
abbrev pub size_limit : ℕ
size_limit = 16384

-- domains 1 to 4, with no more frames and grant entries in all than the limit
pub record AreSizes (sizes : List DomainSize) : Type 0 where
  pub numbers : All (λ s. (1 ≤ s.dom.0) × (s.dom.0 ≤ 4)) sizes
  pub frames : sum_by (λ s. s.frames) sizes ≤ size_limit
  pub grants : sum_by (λ s. s.grants) sizes ≤ size_limit

-- how many words the frames and the grant entries of domains 0 to 4 have, in turn
abbrev pub blocks_by : List DomainSize → List ℕ
blocks_by sizes =
    1024 * frames_by sizes 0 ∷ 2 * grants_by sizes 0 ∷ 1024 * frames_by sizes 1 ∷ 2 * grants_by sizes 1
    ∷ 1024 * frames_by sizes 2 ∷ 2 * grants_by sizes 2 ∷ 1024 * frames_by sizes 3 ∷ 2 * grants_by sizes 3
    ∷ 1024 * frames_by sizes 4 ∷ 2 * grants_by sizes 4 ∷ []
