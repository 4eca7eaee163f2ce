use Rattle.cookie_table.proofs.Names.{few_with, few_without}
use Rattle.cookie_table.proofs.laws.stays_few.Goals as goal

pub returns : goal.returns
returns g c xs few = (
  λ x free room. few_with g.T.HasCookie.cookie_of xs x few free room,
  λ cookie. few_without g.T.HasCookie.cookie_of cookie xs few,
)
