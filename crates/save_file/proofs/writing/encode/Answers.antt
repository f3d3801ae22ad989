use Rattle.std.proofs.Common.{◌≡◌, ◌<◌, ◌^◌, arith, rules}
use Rattle.save_file.specs.Bodies.{body_bytes, body_of, kept_of}
use Rattle.save_file.proofs.Encoding.{read_as}
use Rattle.save_file.proofs.writing.encode.Goals as goal

pub returns-clause-read : goal.returns-clause-read
returns-clause-read c =
    let q = c.args.square.now in
    let w = c.widths-target.result.0 in
    let v = c.widths-target.result.1 in
    let is : c.append_quasi.new.bytes.items ≡ body_bytes (body_of w v (kept_of q)) = search rules in
    let narrow : w < 2 ^ 64 = omega arith in
    let narrow' : v < 2 ^ 64 = omega arith in
    read_as c.parts_are_reduction.ensures q w v c.append_quasi.new.bytes.items c.above.ensures.is_square c.widths-target.ensures narrow narrow' is
