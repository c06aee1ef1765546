pub mod FlagCalls
