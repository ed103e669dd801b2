pub mod machines_lemmas
