-- Points and histories that are computed, and promises put to use on them.
pub mod Worked
pub mod Walked
pub mod BackApplies
pub mod RunsApply
pub mod EndsApply
pub mod Excluded
pub mod FirstApplies
pub mod LogsApply
pub mod TotalsApply
pub mod Applied
pub mod AppliedTotals
pub mod PutToUse
