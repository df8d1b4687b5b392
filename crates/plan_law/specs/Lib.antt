-- the law
pub mod Printed
