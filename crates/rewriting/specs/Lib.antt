pub mod LineKinds
