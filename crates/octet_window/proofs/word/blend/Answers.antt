use Rattle.std.proofs.Common.{◌≡◌, ◌+◌, ◌-◌, ◌∙◌, length, rules, arith}
use Rattle.std.proofs.lemmas.Nat.{le_bytes_4}
use borrow.Rule.Slice.PartMut.{put_mid}
use Rattle.octet_window.proofs.Blends.{put_is, put_length, put_small}
use Rattle.octet_window.proofs.word.blend.Goals as goal

pub returns : goal.returns
returns c =
    let p = c.args.p.now in
    let octets = c.args.octets in
    let all = c.to_le_bytes-all.result in
    let new = c.copy_from_slice.new.self in
    let n : p.first + p.len - p.first ≡ p.len = omega arith in
    let four : length octets ≡ 4 = search rules in
    le_bytes_4 (put_mid p.first (p.first + p.len - p.first) all new) c.from_le_bytes.result
    (put_length p.first p.len
    (p.first + p.len - p.first) c.args.word all new octets c.requires four n c.to_le_bytes-all.ensures c.copy_from_slice.ensures.after)
    (put_small p.first p.len
    (p.first + p.len - p.first) c.args.word all new octets c.requires four n c.to_le_bytes-all.ensures c.copy_from_slice.ensures.after
    (search rules))
    c.from_le_bytes.ensures
    ∙ put_is p c.args.word octets
    (p.first + p.len - p.first) all new c.requires four n c.to_le_bytes-all.ensures c.copy_from_slice.ensures.after
