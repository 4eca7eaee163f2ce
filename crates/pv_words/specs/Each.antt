-- What is said of each access that a port may come to make.
use Rattle.pv_words.specs.declared.access.Access.{Access}

-- each access that is made of a port is so, by the port before it, the access, and the port after it
abbrev pub OfEach : {P : Type 0} → (P → Access → P → Type 0) → (P → Access → P → Type 0) → Type 0
OfEach {P} makes Q = (old : P) (a : Access) (new : P) → makes old a new → Q old a new
