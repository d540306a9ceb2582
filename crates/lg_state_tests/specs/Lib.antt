pub mod LastMove
