-- The return value of the thread of a source.
-- This project's own.
use Rattle.std.specs.Prelude.{◌≡◌, [], Option, None, Result}
use Rattle.dealt_lanes.specs.Dealt.{SameDealer, dealer_end, dealt}
use Rattle.lanes.specs.declared.fault.SourceFault.{SourceFault}
use Rattle.batch.specs.Calls.{IsFedFrom}
use Rattle.lanes.specs.declared.offer_fault.OfferFault.{OfferFault}
use Rattle.lanes.specs.declared.offer_fault.OfferFault.TheVariants.{Closed, NoRoom}
use Rattle.batch.specs.declared.threads.source_thread.Feeding.{Feeding}

module _ {I : Type 0} where
  -- the item that an error returns
  abbrev pub item_of : OfferFault I → I
  item_of (Closed item) = item
  item_of (NoRoom item) = item

module _ {S I O IS : Type 0} where
  -- a source and its dealer, as they were given to a thread and as the thread returned them: the dealer is of
  -- the same lanes; if it had no items and no end, the items dealt are those of the source, and its end is that
  -- of the source; and the origin of the source is unchanged
  pub record HandsBack (gives : S → Result (Option I) SourceFault → S → Type 0) (origin : S → O) (a b : Feeding S I IS) : Type 0 where
    pub same : SameDealer a.dealer b.dealer
    pub all_fed : dealt a.dealer ≡ [] → dealer_end a.dealer ≡ None → IsFedFrom gives (dealer_end b.dealer) (dealt b.dealer) a.source b.source
    pub own_source : origin b.source ≡ origin a.source
