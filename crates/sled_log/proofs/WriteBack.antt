pub mod ForgetLemmas
pub mod LongerFile
pub mod RecoveryLater
pub mod RestartCauses
pub mod WriteLemmas
