-- What is so of a range that was made, but not reported whole.
use Rattle.std.proofs.Common.{ℕ, Result, Ok, Err, inl, inr, refl, sym, subst}
use Rattle.bidegree.specs.declared.range.Range.{Range}
use Rattle.board_core.specs.declared.event.Cause.{Cause}
use Rattle.board_core.specs.declared.event.Cause.TheVariants.{Memory}
use Rattle.square_board.specs.Stocks.{StockWords}
use Rattle.square_board.specs.Workers.{HasMadeBy}
use Rattle.live_worker.specs.Inside.Opened.{IsMadeOrMemory}

module _ {T O I M : Type 0} (words : StockWords T O I M) (workers : ℕ) (first : T) (range : Range) where
  memory_instead : (last : T) → HasMadeBy words workers first range (Ok tt) last → HasMadeBy words workers first range (Err Memory) last
  memory_instead last by =
      let is = by.made in
      record {
        made = record {
          opening = is.opening;
          opened = is.opened;
          history = is.history;
          desk = is.desk;
          all = tt;
          no_cause = tt;
          why = inr (is.no_cause, refl);
        };
        by = by.by;
      }

  pub made_or_memory : (made : Result (Unit {0}) Cause) (last : T) (result : Result (Unit {0}) Cause) → HasMadeBy words workers first range made last → IsMadeOrMemory made result → HasMadeBy words workers first range result last
  made_or_memory made last result is (inl same) = subst (λ (r : Result (Unit {0}) Cause). HasMadeBy words workers first range r last) (sym same) is
  made_or_memory made last result is (inr none) = subst (λ (r : Result (Unit {0}) Cause). HasMadeBy words workers first range r last) (sym none.1) (memory_instead last (subst (λ (r : Result (Unit {0}) Cause). HasMadeBy words workers first range r last) none.0 is))
