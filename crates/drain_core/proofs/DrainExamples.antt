-- The worked drains, by computation.
use Rattle.std.proofs.Common.{◌≡◌, ℕ, List, [], ◌∷◌, refl}
use Rattle.drain_core.proofs.Common.{Act, BankAddress, Command, CostNumbers, Geometry, Place, Pre, PreAll, Ref, Sre}
use Rattle.drain_core.proofs.Common.{Stamped, Timing, Wr, floor, greatest, least_clock, most_gap, open_row, pair_gap}
use Rattle.drain_core.proofs.Common.{ref_count, window}
use Rattle.drain_core.specs.Drain.{drain_start, with_earliest, rest_clock, after_rest, has_open_bank, owes_refresh, close_step_of, after_refreshes, entry_step_of, after_self_refresh, drain_of, drain_commands, drain_clocks, drain_spent}

abbrev tiny : Timing
tiny = record {
  t_rcd = 16;
  t_rp = 16;
  t_ras = 39;
  cl = 16;
  cwl = 12;
  t_ccd_s = 4;
  t_ccd_l = 6;
  t_rrd_s = 4;
  t_rrd_l = 6;
  t_faw = 26;
  t_wr = 18;
  t_wtr_s = 3;
  t_wtr_l = 9;
  t_rtp = 9;
  t_rtw = 10;
  t_cs = 2;
  t_rfc = 420;
  t_refi = 9360;
}

abbrev small : Geometry
small = record { channels = 2; ranks = 1; groups = 2; banks = 4; rows = 2; columns = 4 }

abbrev numbers : CostNumbers
numbers = record { e_act = 4; e_col = 2; e_pre = 1; e_ref = 20; e_sre = 1; e_clk = 1; e_mark = 50; e_sync = 100; e_page = 1000; e_digest = 0; leak = 1 }

abbrev first : BankAddress
first = record { rank = 0; group = 0; bank = 0 }

abbrev place : Place
place = record { channel = 0; rank = 0; group = 0; bank = 0; row = 0; column = 0 }

abbrev at : ℕ → Command → Stamped
at clock cmd = record { clock = clock; cmd = cmd }

-- the bank of another rank
abbrev of_rank : ℕ → BankAddress
of_rank rank = record { rank = rank; group = 0; bank = 0 }

-- a bank was opened at first, and closed when an interval had passed
abbrev long_open : List Stamped
long_open = at 0 (Act first 1) ∷ at 9400 (Pre first) ∷ []

-- a row is open on each of four ranks
abbrev four_open : List Stamped
four_open = at 0 (Act (of_rank 0) 0) ∷ at 1 (Act (of_rank 1) 0) ∷ at 2 (Act (of_rank 2) 0) ∷ at 3 (Act (of_rank 3) 0) ∷ []

-- commands, clocks and what is spent
record IsDrain (g : Geometry) (list : List Stamped) (places : List Place) (commands : List Stamped) (clocks spent : ℕ) : Type 0 where
  issues : drain_commands tiny g list places ≡ commands
  takes : drain_clocks tiny g list places ≡ clocks
  spends : drain_spent numbers tiny g list places ≡ spent

record WorkedDrains : Type 0 where
  -- no write
  none : IsDrain small [] [] (at 0 (Sre 0) ∷ []) 1 2
  -- one write, on a channel without a command before
  one_write : IsDrain small [] (place ∷ []) (at 0 (Act first 0) ∷ at 16 (Wr first 0) ∷ at 50 (Pre first) ∷ at 66 (Sre 0) ∷ []) 67 75
  -- two writes of one bank and row
  two_writes : IsDrain small [] (place ∷ record place { column = 1 } ∷ [])
      (at 0 (Act first 0) ∷ at 16 (Wr first 0) ∷ at 50 (Pre first) ∷ at 66 (Act first 0) ∷ at 82 (Wr first 1) ∷ at 116 (Pre first) ∷ at 132 (Sre 0) ∷ [])
      133 148
  -- one write, where a REF is owed at the entry's start, 9416
  one_refresh : IsDrain small long_open (place ∷ [])
      (at 9416 (Ref 0) ∷ at 9836 (Act first 0) ∷ at 9852 (Wr first 0) ∷ at 9886 (Pre first) ∷ at 9902 (Sre 0) ∷ [])
      502 530
  -- one write, where each of two ranks owes a REF
  two_refreshes : IsDrain (record small { ranks = 2 }) long_open (place ∷ [])
      (at 9416 (Ref 0) ∷ at 9417 (Ref 1) ∷ at 9837 (Act first 0) ∷ at 9853 (Wr first 0) ∷ at 9887 (Pre first) ∷ at 9903 (Sre 0) ∷ at 9904 (Sre 1) ∷ [])
      504 553
  -- open rows on four ranks, and no write
  four_ranks : IsDrain (record small { ranks = 4 }) four_open []
      (at 39 (PreAll 0) ∷ at 40 (PreAll 1) ∷ at 41 (PreAll 2) ∷ at 42 (PreAll 3) ∷ at 58 (Sre 0) ∷ at 59 (Sre 1) ∷ at 60 (Sre 2) ∷ at 61 (Sre 3) ∷ [])
      58 66

worked : WorkedDrains
unfolding drain_start with_earliest rest_clock after_rest has_open_bank owes_refresh close_step_of after_refreshes entry_step_of after_self_refresh drain_of drain_commands drain_clocks drain_spent open_row ref_count greatest floor window least_clock most_gap pair_gap
worked = record {
  none = record { issues = refl; takes = refl; spends = refl };
  one_write = record { issues = refl; takes = refl; spends = refl };
  two_writes = record { issues = refl; takes = refl; spends = refl };
  one_refresh = record { issues = refl; takes = refl; spends = refl };
  two_refreshes = record { issues = refl; takes = refl; spends = refl };
  four_ranks = record { issues = refl; takes = refl; spends = refl };
}
