pub mod BelowLemmas
pub mod FoldLemmas
pub mod PageRuns
pub mod PageWise
pub mod TableCuts
pub mod TableLemmas
pub mod WholeTables
