pub mod AtCut
