use Rattle.std.proofs.Common.{◌≡◌, ℕ, ◌+◌, ◌-◌, ◌∙◌, List, ap, take, drop, arith}
use Rattle.pcm_stream.proofs.Octets.{piece-line_from}
use Rattle.pcm_stream.proofs.line.line_piece.Goals as goal

pub returns : goal.returns
returns c =
    let size : c.args.from + c.args.count - c.args.from ≡ c.args.count = omega arith in
    ap (λ (n : ℕ). take n (drop c.args.from c.line-line.result.now)) size
    ∙ ap (λ (xs : List ℕ). take c.args.count (drop c.args.from xs)) c.line-line.ensures
    ∙ piece-line_from c.args.from c.args.count 251 c.requires
