-- How the proof of cm_command goes. The kit's `clap` has its parse of simple commands as a function of the
-- words. CommandLineLemmas computes it for the words that ask for a job. WalkedLemmas shows, by a walk over
-- any words, that those which call for no stop name a job and a number of blocks in its range, so the code
-- reads both without a test of its own.
pub mod AskedLemmas
pub mod CommandLineLemmas
pub mod RowLemmas
pub mod WalkedLemmas
