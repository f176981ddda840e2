-- The words that most proofs of this crate cite, passed on from one place.
pub use Rattle.ddr4_timing.specs.declared.command.Command.{Command}
pub use Rattle.ddr4_timing.specs.declared.command.Command.TheVariants.{Act, Pre, PreAll, Rd, Ref, Sre, Wr}
pub use Rattle.ddr4_timing.specs.declared.command.Stamped.{Stamped}
pub use Rattle.ddr4_timing.specs.declared.place.BankAddress.{BankAddress}
pub use Rattle.ddr4_timing.specs.declared.place.Place.{Place}
pub use Rattle.ddr4_timing.specs.declared.timing.Checked.{Checked}
pub use Rattle.ddr4_timing.specs.declared.timing.Geometry.{Geometry}
pub use Rattle.ddr4_timing.specs.declared.timing.Timing.{Timing}
pub use Rattle.ddr4_timing.specs.Command.{is_act_of, is_ref, is_ref_of, is_sre_of, rank_of}
unfoldable pub use Rattle.ddr4_timing.specs.Floors.{floor, greatest, least_clock}
unfoldable pub use Rattle.ddr4_timing.specs.Gaps.{most_gap}
pub use Rattle.ddr4_timing.specs.Lawful.{AllClosed, FitsRows, IsInGeometry, IsLawful, KeepsRows, row_after}
unfoldable pub use Rattle.ddr4_timing.specs.Lawful.{is_asleep, last_ref, open_row, ref_count}
pub use Rattle.ddr4_timing.specs.Limits.{IsSmall, close_of, entry_of}
pub use Rattle.ddr4_timing.specs.Places.{HasBank, LiesIn, bank_at, bank_index}
pub use Rattle.bank_core.specs.Stands.{Allows, BanksState, Stands, with_command}
pub use Rattle.frfcfs.specs.declared.best.Best.{Best}
pub use Rattle.frfcfs.specs.declared.best.Bests.{Bests}
pub use Rattle.request_notes.specs.declared.key.Key.{Key}
pub use Rattle.frfcfs.specs.declared.next.Next.{Next}
pub use Rattle.request_notes.specs.declared.pending.Kind.{Kind}
pub use Rattle.request_notes.specs.declared.pending.Kind.TheVariants.{Read, Write}
pub use Rattle.request_notes.specs.declared.pending.Pending.{Pending}
pub use Rattle.frfcfs.specs.Candidates.{HasNoCandidate, IsCandidate, IsChoice, IsInLead, IsLeast, IsNotAfter, IsUnhit, MayHave, OfColumn, OfRank, OfRow, OffersRank, Turn, WantsColumn, WantsRow, class_of, tie_break_of}
pub use Rattle.frfcfs.specs.Keys.{AreKeys, AreKeysIn, AreToldBy, IsKeyOf, firsts_of}
pub use Rattle.request_notes.specs.KeyPlaces.{bank_number, place_of}
pub use Rattle.frfcfs.specs.Margin.{AreAsleep, HasTime, IsIdle, KeepsMargin, MayClose, MayRefresh, close_clock, commands_before, lead_clock, refresh_clock, row_time}
unfoldable pub use Rattle.frfcfs.specs.Margin.{above, last_clock}
pub use Rattle.frfcfs.specs.Next.{HasWork, IsNext, IsNextIn, ServesInTurn}
pub use Rattle.frfcfs.specs.Queue.{AreFirsts, IsFirstAt, KeepsRequests, IsOldestOf, IsWaiting, MarksOldest, Waiting, held_by, is_held, marked_at, numbered_from}
pub use Rattle.request_notes.specs.Requests.{AreInOrder, IsEligible, IsFirst, act_of, column_of, pre_of}
pub use Rattle.frfcfs.specs.Search.{AreAllBestInTurn, AreBest, AreBestInTurn, AreFound, AreHits, AreMarks, HasHit, IsBest, IsBetter, IsEnd, IsRankNext, IsRankNextAt, IsSoonerOf, Takes, limit_of}
