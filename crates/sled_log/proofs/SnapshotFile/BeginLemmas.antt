-- Recovery begins from one snapshot at most.
pub use Rattle.sled_store.proofs.Names.OneBegin.{one_number, one_newest, one_begin}
