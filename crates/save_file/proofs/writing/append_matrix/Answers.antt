use Rattle.std.proofs.Common.{length}
use Rattle.std.specs.Int.{w64, to_be_bytes}
use Rattle.std.specs.List.{flat_map}
use Rattle.std.proofs.lemmas.Result.{on_ok_weaker}
use Rattle.f2_vec.specs.Bytes.{packed}
use Rattle.save_file.proofs.Appending.{matrix_appended}
use Rattle.save_file.proofs.writing.append_matrix.Goals as goal

pub returns : goal.returns
returns c =
    on_ok_weaker c.append_rows.result (matrix_appended c.args.bytes.now.items c.to_be_bytes.result (to_be_bytes w64 (length c.args.rows.now)) c.extend_from_slice.new.self.items c.to_be_bytes-2.result (to_be_bytes w64 c.args.cols) c.extend_from_slice-2.new.self.items (flat_map packed c.args.rows.now) c.append_rows.new.bytes.items
    c.in_ok-extend_from_slice.ensures.items c.to_be_bytes.ensures c.in_ok-extend_from_slice-2.ensures.items c.to_be_bytes-2.ensures) c.append_rows.ensures
