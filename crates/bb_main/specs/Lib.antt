-- the natives of the program
pub mod Natives
-- what a whole command line comes to
pub mod Obey
-- what the program writes for an input, and its status
pub mod Serve
-- of bb_native: natives, and what a roster of them means
pub use Rattle.bb_shell.specs.Native
pub use Rattle.bb_shell.specs.Roster
-- of bb_main_options: what to do with an input
pub use Rattle.bb_main_options.specs.declared.choice.Mode
