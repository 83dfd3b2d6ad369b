-- The counts of a run, and those of none. Definitions only.
use Rattle.counts.specs.declared.Counts.{Counts}

-- expansions completed, faces made, faces live at the end, most edges in one pass, lookups that missed
abbrev pub no_counts : Counts
no_counts = record { expansions = 0; made = 0; live = 0; edges = 0; missed = 0 }
