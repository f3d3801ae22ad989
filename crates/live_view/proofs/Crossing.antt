-- A reader and a writer may go to any thread.
use denote.RattleType.{RattleType}
use denote.Param.Send.{IsSend, IsSync, sendable}
use denote.Param.SendFields.{as_row_send, declared_send}
use Rattle.std_heap.specs.contracts.Global as Heap
use Rattle.std_heap.specs.contracts.GlobalAllocator.TheImpl.{ghosts}
use Rattle.crossbeam_utils.specs.declared.rule.Protocol as protocol
use denote.Builtin.{u64}
use denote.Struct.Tuple.{Tuple}
use Rattle.std.proofs.Common.{[], ◌∷◌}
use Rattle.std.proofs.Crossing.{crosses, Arc-send, Vec-send, Deque-send, frees, send}
use Rattle.core.specs.contracts.option.Option as Option
use Rattle.atomic_table.specs.contracts.shared.Seat as Seat
use Rattle.atomic_table.specs.contracts.shared.Shared as Shared
use Rattle.atomic_table.specs.declared.shared.TableRule as rule
use Rattle.logbook.proofs.tokens.Seen.TheSendSync as seen
use Rattle.logbook.proofs.word.Word.TheSendSync as word
use Rattle.atomic_table.proofs.shared.Shared.TheSendSync as shared
use Rattle.atomic_table.proofs.shared.Seat.TheSendSync as seat
use Rattle.atomic_table.proofs.send_lease.SendLease.TheSendSync as lease
use Rattle.atomic_table.specs.contracts.owned.Table as Table
use Rattle.left_right.specs.contracts.reader.Factory as Factory
use Rattle.left_right.specs.contracts.reader.Reader as Reader
use Rattle.left_right.specs.contracts.desk.Desk as Desk
use Rattle.left_right.specs.contracts.writer.Writer as Writer
use Rattle.left_right.specs.contracts.part.Deed as Deed
use Rattle.left_right.specs.declared.Absorb as absorb
use Rattle.std.specs.contracts.sync.Arc as Arc
use Rattle.std.specs.contracts.snapshot.Snapshot as Snapshot
use Rattle.left_right.specs.contracts.board.Doing as Doing
use Rattle.left_right.specs.contracts.board.Sides as Sides
use Rattle.left_right.specs.Sides.{Sided, starting}
use Rattle.left_right.specs.contracts.part.Part as Part
use Rattle.left_right.proofs.part.Part.TheSendSync as part
use Rattle.left_right.proofs.part.Deed.TheSendSync as deed
use Rattle.std.specs.contracts.vec.Vec as Vec
use Rattle.std.specs.contracts.collections.VecDeque as Deque
use Rattle.live_view.specs.contracts.newest.NewestAbsorb.TheImpl as absorbs
use Rattle.live_view.specs.contracts.newest.OneBook as OneBook
use Rattle.live_view.specs.contracts.newest.OneBookProtocolNewestTie.TheImpl as one_book
use Rattle.live_view.specs.contracts.view.View as View
use Rattle.live_view.specs.contracts.known.Known as Known
use Rattle.live_view.specs.contracts.newest.Newest as Newest
use Rattle.live_view.specs.contracts.note.Note as Note
use Rattle.live_view.specs.contracts.reader.Sight as Sight
use Rattle.live_view.specs.contracts.reader.LiveReader as LiveReader
use Rattle.live_view.specs.contracts.series.Series as Series
use Rattle.live_view.specs.contracts.writer.Flushed as Flushed
use Rattle.live_view.specs.contracts.writer.LiveWriter as LiveWriter

View-send : IsSend View.the_row
View-send = search (crosses, sendable) depth 30

View-sync : IsSync View.the_row
View-sync = search (crosses, sendable) depth 30

Known-send : IsSend Known.the_row
Known-send = search (crosses, sendable, seen.the_send) depth 30

Known-sync : IsSync Known.the_row
Known-sync = search (crosses, sendable, seen.the_sync) depth 30

pub Newest-send : IsSend Newest.the_row
Newest-send = search (crosses, sendable, View-send, Known-send) depth 30

pub Newest-sync : IsSync Newest.the_row
Newest-sync = search (crosses, sendable, View-sync, Known-sync) depth 30

pub Note-send : IsSend Note.the_row
Note-send = search (crosses, sendable, Newest-send) depth 30

-- ---- the shared table

module _ (S V K P : RattleType) (g : rule.Ghosts P.Denot S.Denot V.Denot K.Denot) (s : IsSend S) where
  Shared-send : IsSend (Shared.the_row S V K P g)
  Shared-send = shared.the_send S V K P g s

  Shared-sync : IsSync (Shared.the_row S V K P g)
  Shared-sync = shared.the_sync S V K P g s

  Table-send : IsSend (Table.the_row S V K P Heap.the_row g ghosts)
  Table-send = search (crosses, sendable, Shared-send, lease.the_send) depth 60

  Table-sync : IsSync (Table.the_row S V K P Heap.the_row g ghosts)
  Table-sync = search (crosses, sendable, Shared-sync, lease.the_sync) depth 60

Part-send : (T : RattleType) → IsSync T → IsSend (Part.the_row T)
Part-send T y = part.the_send T y

Slot-send : (T : RattleType) → IsSync T → IsSend (Option.the_row (Part.the_row T))
Slot-send T y = search (crosses, sendable, Part-send, y) depth 30

module _ (T V P : RattleType) (g : protocol.Ghosts P.Denot T.Denot V.Denot) where
  abbrev board_row : RattleType
  board_row = Table.the_row (Option.the_row (Part.the_row T)) (Doing.the_row T V) (Snapshot.the_row (Part.the_row T)) (Sides.the_row P) Heap.the_row (record { holds = λ key. Sided g.holds; first = λ key. starting key.value g.first }) ghosts

  Board-send : IsSync T → IsSend board_row
  Board-send y = Table-send (Option.the_row (Part.the_row T)) (Doing.the_row T V) (Snapshot.the_row (Part.the_row T)) (Sides.the_row P) (record { holds = λ key. Sided g.holds; first = λ key. starting key.value g.first }) (Slot-send T y)

  Board-sync : IsSync T → IsSync board_row
  Board-sync y = Table-sync (Option.the_row (Part.the_row T)) (Doing.the_row T V) (Snapshot.the_row (Part.the_row T)) (Sides.the_row P) (record { holds = λ key. Sided g.holds; first = λ key. starting key.value g.first }) (Slot-send T y)

  Factory-send : IsSync T → IsSend (Factory.the_row T V P Heap.the_row g ghosts)
  Factory-send y = declared_send (Factory.the_type T V P Heap.the_row g ghosts) (as_row_send (Arc.the_field board_row Heap.the_row ghosts) (Arc-send board_row (Board-send y) (Board-sync y)), tt)

  pub Reader-send : IsSync T → IsSend (Reader.the_row T V P Heap.the_row g ghosts)
  Reader-send y =
      declared_send
      (Reader.the_type T V P Heap.the_row g ghosts)
      (Factory-send y, (as_row_send (Seat.the_field (Option.the_row (Part.the_row T)) (Doing.the_row T V)) (seat.the_send (Option.the_row (Part.the_row T)) (Doing.the_row T V) (Slot-send T y)), (search sendable depth 20, tt)))

  seat_send : IsSync T → IsSend (Seat.the_row (Option.the_row (Part.the_row T)) (Doing.the_row T V))
  seat_send y = seat.the_send (Option.the_row (Part.the_row T)) (Doing.the_row T V) (Slot-send T y)

  Desk-send : IsSend T → IsSync T → IsSend (Desk.the_row T V P Heap.the_row g ghosts)
  Desk-send s y =
      let parts = as_row_send (Part.the_field T) (Part-send T y) in
      let deeds = as_row_send (Deed.the_field T Heap.the_row ghosts) (deed.the_send T Heap.the_row ghosts s send frees) in
      declared_send
      (Desk.the_type T V P Heap.the_row g ghosts)
      (Factory-send y, (as_row_send (Seat.the_field (Option.the_row (Part.the_row T)) (Doing.the_row T V)) (seat_send y), (search sendable depth 20, (search sendable depth 20, (as_row_send (Vec.the_field u64 Heap.the_row ghosts) (Vec-send u64 (search sendable)), (deeds, (parts, (deeds, (parts, tt)))))))))

  pub Writer-send : (O S : RattleType) (h : absorb.Ghosts T.Denot O.Denot S.Denot) → IsSend T → IsSync T → IsSend O → IsSend (Writer.the_row T O V P Heap.the_row S h g ghosts)
  Writer-send O S h s y so = declared_send (Writer.the_type T O V P Heap.the_row S h g ghosts) (Desk-send s y, (as_row_send (Deque.the_field O Heap.the_row ghosts) (Deque-send O so), (search sendable depth 20, (search sendable depth 20, tt))))

abbrev tie_row : RattleType
tie_row = Option.the_row (Tuple (u64 ∷ u64 ∷ u64 ∷ []))

pub Sight-send : IsSend Sight.the_row
Sight-send = declared_send Sight.the_type (Reader-send Newest.the_row tie_row OneBook.the_row one_book.ghosts Newest-sync, (as_row_send Newest.the_field Newest-send, tt))

Reads-send : IsSend LiveReader.TheInside.the_row
Reads-send = declared_send LiveReader.TheInside.the_type (Sight-send, (search sendable depth 20, (search sendable depth 20, tt)))

pub LiveReader-send : IsSend LiveReader.the_row
LiveReader-send = record { owned = λ d vs x. (Reads-send.owned x.0 vs, tt); leaving = λ k d w. tt }

Series-send : IsSend Series.the_row
Series-send = search (crosses, sendable, Known-send, word.the_send) depth 30

Flushed-send : IsSend Flushed.the_row
Flushed-send = declared_send Flushed.the_type (Writer-send Newest.the_row tie_row OneBook.the_row one_book.ghosts Newest.the_row Newest.the_row absorbs.ghosts Newest-send Newest-sync Newest-send, tt)

Writes-send : IsSend LiveWriter.TheInside.the_row
Writes-send = declared_send LiveWriter.TheInside.the_type (Flushed-send, (Series-send, (search sendable depth 20, (search sendable depth 20, tt))))

pub LiveWriter-send : IsSend LiveWriter.the_row
LiveWriter-send = record { owned = λ d vs x. (Writes-send.owned x.0 vs, tt); leaving = λ k d w. tt }
