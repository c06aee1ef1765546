pub mod WriteCall
